-- The box whose sealing of a message is the message itself meets the laws of a sealed box.
use Rattle.std.proofs.Common.{◌≡◌, ℕ, List, Some, sym, ◌∙◌, subst}
use Rattle.rusty_paseto_primitives.specs.Bytes.{IsBytes}
use Rattle.rusty_paseto_core.specs.Local.SealedBox.{IsLawfulBox}

same : (first second : List ℕ) → Some first ≡ Some second → first ≡ second
same first second is = cc

pub plain-IsLawfulBox : IsLawfulBox (λ key nonce associated message. Some message)
plain-IsLawfulBox = record {
  injective = λ key nonce associated first second boxed asked first_bytes second_bytes first_is second_is.
      same first boxed first_is ∙ sym (same second boxed second_is);
  bytes = λ key nonce associated message boxed asked message_bytes is. subst IsBytes (same message boxed is) message_bytes;
}
