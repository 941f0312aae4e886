-- The box is lawful.
use Rattle.std.proofs.Common.{◌≡◌, ℕ, zero, suc, ◌≤◌, Bool, true, false, if◌then◌else◌, List, ◌++◌, Some, None, length, refl, sym, ◌∙◌, ap, arith, length-append}
use Rattle.std.specs.Prelude.{nat_le}
use Rattle.std.proofs.lemmas.Bool.{leb-true}
use Rattle.std.specs.Int.{w128, to_le_bytes}
use Rattle.rusty_paseto_primitives.specs.Bytes.{IsBytes}
use Rattle.rusty_paseto_primitives.proofs.Xored.{IsBytes-xored_from, length-xored_from, xored_from-twice}
use Rattle.rusty_paseto_primitives.proofs.StreamBlocks.{xchacha20_stream-lt}
use Rattle.rusty_paseto_primitives.proofs.ByteLists.{IsBytes-append}
use Rattle.rusty_paseto_parts.proofs.PaeLemmas.{append_parts}
use Rattle.rusty_paseto_primitives.specs.ChaCha.Stream.{xchacha20_stream}
use Rattle.rusty_paseto_core.specs.Local.SealedBox.{IsLawfulBox}
use Rattle.paseto_xchacha20poly1305.specs.Tag.{poly1305}
use Rattle.paseto_xchacha20poly1305.specs.Sealing.{box_sealing, xored_text, text_tag}

IsBytes-number : (n : ℕ) → IsBytes (to_le_bytes w128 n)
IsBytes-number n zero = omega arith
IsBytes-number n (suc zero) = omega arith
IsBytes-number n (suc (suc zero)) = omega arith
IsBytes-number n (suc (suc (suc zero))) = omega arith
IsBytes-number n (suc (suc (suc (suc zero)))) = omega arith
IsBytes-number n (suc (suc (suc (suc (suc zero))))) = omega arith
IsBytes-number n (suc (suc (suc (suc (suc (suc zero)))))) = omega arith
IsBytes-number n (suc (suc (suc (suc (suc (suc (suc zero))))))) = omega arith
IsBytes-number n (suc (suc (suc (suc (suc (suc (suc (suc zero)))))))) = omega arith
IsBytes-number n (suc (suc (suc (suc (suc (suc (suc (suc (suc zero))))))))) = omega arith
IsBytes-number n (suc (suc (suc (suc (suc (suc (suc (suc (suc (suc zero)))))))))) = omega arith
IsBytes-number n (suc (suc (suc (suc (suc (suc (suc (suc (suc (suc (suc zero))))))))))) = omega arith
IsBytes-number n (suc (suc (suc (suc (suc (suc (suc (suc (suc (suc (suc (suc zero)))))))))))) = omega arith
IsBytes-number n (suc (suc (suc (suc (suc (suc (suc (suc (suc (suc (suc (suc (suc zero))))))))))))) = omega arith
IsBytes-number n (suc (suc (suc (suc (suc (suc (suc (suc (suc (suc (suc (suc (suc (suc zero)))))))))))))) = omega arith
IsBytes-number n (suc (suc (suc (suc (suc (suc (suc (suc (suc (suc (suc (suc (suc (suc (suc zero))))))))))))))) = omega arith
IsBytes-number n (suc (suc (suc (suc (suc (suc (suc (suc (suc (suc (suc (suc (suc (suc (suc (suc k)))))))))))))))) = omega arith

chosen : (b : Bool) (x y : List ℕ) → (if b then Some x else None) ≡ Some y → (b ≡ true) × (x ≡ y)
chosen true x y e = let same : x ≡ y = cc in (refl, same)
chosen false x y e = cc

module _ (key nonce : List ℕ) where
  pub xored_text-twice : (bytes : List ℕ) → xored_text key nonce (xored_text key nonce bytes) ≡ bytes
  unfolding xored_text
  xored_text-twice bytes = xored_from-twice (xchacha20_stream key nonce) 64 bytes

  pub length-xored_text : (bytes : List ℕ) → length (xored_text key nonce bytes) ≡ length bytes
  unfolding xored_text
  length-xored_text bytes = length-xored_from (xchacha20_stream key nonce) 64 bytes

  pub IsBytes-xored_text : (bytes : List ℕ) → IsBytes bytes → IsBytes (xored_text key nonce bytes)
  unfolding xored_text
  IsBytes-xored_text bytes all = IsBytes-xored_from (xchacha20_stream key nonce) 64 bytes (xchacha20_stream-lt key nonce) all

  module _ (associated : List ℕ) where
    pub length-text_tag : (text : List ℕ) → length (text_tag key nonce associated text) ≡ 16
    unfolding text_tag poly1305
    length-text_tag text = refl

    pub IsBytes-text_tag : (text : List ℕ) → IsBytes (text_tag key nonce associated text)
    unfolding text_tag poly1305
    IsBytes-text_tag text = IsBytes-number _

    -- a message that has a sealing is not too long, and its sealing is the xored message and its tag
    pub box_sealing-parts : (message boxed : List ℕ) → box_sealing key nonce associated message ≡ Some boxed
        → (length message ≤ 274877906880)
        × (xored_text key nonce message ++ text_tag key nonce associated (xored_text key nonce message) ≡ boxed)
    unfolding box_sealing
    box_sealing-parts message boxed e =
        let found = chosen (nat_le (length message) 274877906880) _ boxed e in
        (leb-true (length message) 274877906880 found.0, found.1)

pub box-IsLawful : IsLawfulBox box_sealing
box-IsLawful = record {
  injective = λ key nonce associated first second boxed asked first_bytes second_bytes first_is second_is.
      let a = xored_text key nonce first in
      let b = xored_text key nonce second in
      let same = (box_sealing-parts key nonce associated first boxed first_is).1
      ∙ sym (box_sealing-parts key nonce associated second boxed second_is).1 in
      let lengths : length a ≡ length b =
      omega (
        arith,
        length-append a (text_tag key nonce associated a),
        length-append b (text_tag key nonce associated b),
        length-text_tag key nonce associated a,
        length-text_tag key nonce associated b,
        ap length same,
      ) in
      sym (xored_text-twice key nonce first)
      ∙ ap (xored_text key nonce) (append_parts a b (text_tag key nonce associated a) (text_tag key nonce associated b) lengths same).0
      ∙ xored_text-twice key nonce second;
  bytes = λ key nonce associated message boxed asked message_bytes is.
      let text = xored_text key nonce message in
      let whole : IsBytes (text ++ text_tag key nonce associated text) =
      IsBytes-append text (text_tag key nonce associated text) (IsBytes-xored_text key nonce message message_bytes) (IsBytes-text_tag key nonce associated text) in
      rw (box_sealing-parts key nonce associated message boxed is).1 at whole;
}
