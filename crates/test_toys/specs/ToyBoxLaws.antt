-- What the toy sealed box has of what each sealed box has.
use Rattle.std.proofs.Common.{◌≡◌, ℕ, ◌+◌, ◌≤◌, Bool, true, false, if◌then◌else◌, List, ◌++◌, Some, None, length, refl, sym, ◌∙◌, ap, arith, length-append}
use Rattle.std.specs.Prelude.{nat_le}
use Rattle.std.proofs.lemmas.Bool.{leb-true}
use Rattle.rusty_paseto_primitives.specs.Bytes.{IsBytes}
use Rattle.rusty_paseto_primitives.proofs.Blake2Lengths.{length-blake2b, IsBytes-blake2b}
use Rattle.rusty_paseto_primitives.proofs.ByteLists.{IsBytes-append}
use Rattle.rusty_paseto_parts.proofs.PaeLemmas.{append_parts}
use Rattle.rusty_paseto_core.specs.Local.SealedBox.{IsLawfulBox}
use Rattle.test_toys.specs.ToyBox.{toy_sealing, toy_tag}

chosen : (b : Bool) (x y : List ℕ) → (if b then Some x else None) ≡ Some y → (b ≡ true) × (x ≡ y)
chosen true x y e = let same : x ≡ y = cc in (refl, same)
chosen false x y e = cc

module _ (key nonce associated message : List ℕ) where
  pub length-toy_tag : length (toy_tag key nonce associated message) ≡ 16
  length-toy_tag = length-blake2b key 16 _ (omega arith)

  pub length-tagged : length (message ++ toy_tag key nonce associated message) ≡ length message + 16
  length-tagged = omega (arith, length-append message (toy_tag key nonce associated message), length-toy_tag)

  -- a message that has a sealing is not too long, and its sealing is the message and its tag
  pub toy_sealing-parts : (boxed : List ℕ) → toy_sealing key nonce associated message ≡ Some boxed
      → (length message ≤ 4096) × (message ++ toy_tag key nonce associated message ≡ boxed)
  unfolding toy_sealing
  toy_sealing-parts boxed e =
      let found = chosen (nat_le (length message) 4096) (message ++ toy_tag key nonce associated message) boxed e in
      (leb-true (length message) 4096 found.0, found.1)

pub toy-IsLawful : IsLawfulBox toy_sealing
toy-IsLawful = record {
  injective = λ key nonce associated first second boxed asked first_bytes second_bytes first_is second_is.
      let of_first = toy_sealing-parts key nonce associated first boxed first_is in
      let of_second = toy_sealing-parts key nonce associated second boxed second_is in
      let same = of_first.1 ∙ sym of_second.1 in
      let lengths : length first ≡ length second =
      omega (arith, length-tagged key nonce associated first, length-tagged key nonce associated second, ap length same) in
      (append_parts first second (toy_tag key nonce associated first) (toy_tag key nonce associated second) lengths same).0;
  bytes = λ key nonce associated message boxed asked message_bytes is.
      let tag = toy_tag key nonce associated message in
      let whole : IsBytes (message ++ tag) = IsBytes-append message tag message_bytes (IsBytes-blake2b key 16 _) in
      rw (toy_sealing-parts key nonce associated message boxed is).1 at whole;
}
