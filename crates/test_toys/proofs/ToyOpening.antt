-- What the toy sealed box opens: a message and its tag, and nothing else.
use Rattle.std.proofs.Common.{◌≡◌, ◌≢◌, ℕ, ◌-◌, ◌<◌, ◌≤◌, Bool, true, false, not, List, ◌++◌, Some, None, length, take, drop, refl, sym, ap, ◌∙◌, arith}
use Rattle.std.specs.Str.{bytes_eq}
use Rattle.std.proofs.lemmas.Bool.{le-leb, lt-leb}
use Rattle.std.proofs.lemmas.List.{take_at, drop_at, take-append-drop, length-take-le}
use Rattle.std.proofs.lemmas.Slice.Eq.{bytes_eq-Decides}
use Rattle.rusty_paseto_primitives.specs.Bytes.{IsBytes}
use Rattle.rusty_paseto_primitives.proofs.ByteLists.{IsBytes-take}
use Rattle.rusty_paseto_core.specs.Local.SealedBox.{IsOpening}
use Rattle.test_toys.specs.ToyBox.{toy_sealing, toy_tag}
use Rattle.test_toys.specs.ToyBoxLaws.{length-tagged, toy_sealing-parts}

turned : (b : Bool) → not b ≡ false → b ≡ true
turned true e = refl
turned false e = sym e

-- a tag and what was found in its place, as `!=` tells
module _ (differ : Bool) (own found : List ℕ) (is : differ ≡ not (bytes_eq own found)) where
  pub alike : differ ≡ false → own ≡ found
  alike told = (bytes_eq-Decides own found).0 (turned (bytes_eq own found) (sym is ∙ told))

  pub apart : differ ≡ true → own ≢ found
  apart told same =
      let equal : bytes_eq own found ≡ true = (bytes_eq-Decides own found).1 same in
      let never : true ≡ not true = rw equal at (sym told ∙ is) in
      cc

module _ (key nonce associated : List ℕ) where
  -- a message that is not too long
  pub toy_sealing-Some : (message : List ℕ) → length message ≤ 4096
      → toy_sealing key nonce associated message ≡ Some (message ++ toy_tag key nonce associated message)
  unfolding toy_sealing
  toy_sealing-Some message fits = rw (le-leb (length message) 4096 fits) refl

  -- a message that is too long
  pub toy_sealing-None : (message : List ℕ) → 4096 < length message → toy_sealing key nonce associated message ≡ None
  unfolding toy_sealing
  toy_sealing-None message long = rw (lt-leb (length message) 4096 long) refl

  module _ (boxed : List ℕ) where
    pub too_short : length boxed < 16 → IsOpening (toy_sealing key nonce associated) boxed None
    too_short short message bytes is =
        let parts = toy_sealing-parts key nonce associated message boxed is in
        omega (arith, length-tagged key nonce associated message, ap length parts.1)

    pub too_long : 4112 < length boxed → IsOpening (toy_sealing key nonce associated) boxed None
    too_long long message bytes is =
        let parts = toy_sealing-parts key nonce associated message boxed is in
        omega (arith, length-tagged key nonce associated message, ap length parts.1)

    -- bytes that end in another tag
    pub other_tag : toy_tag key nonce associated (take (length boxed - 16) boxed) ≢ drop (length boxed - 16) boxed
        → IsOpening (toy_sealing key nonce associated) boxed None
    other_tag differs message bytes is =
        let parts = toy_sealing-parts key nonce associated message boxed is in
        let whole = parts.1 in
        let end : length message ≡ length boxed - 16 = omega (arith, length-tagged key nonce associated message, ap length whole) in
        let front : take (length boxed - 16) boxed ≡ message =
        rw (← whole) (take_at message (toy_tag key nonce associated message) _ (rw whole end)) in
        let back : drop (length boxed - 16) boxed ≡ toy_tag key nonce associated message =
        rw (← whole) (drop_at message (toy_tag key nonce associated message) _ (rw whole end)) in
        differs (rw front (sym back))

    -- bytes that end in their tag
    pub own_tag : 16 ≤ length boxed → length boxed ≤ 4112 → IsBytes boxed
        → toy_tag key nonce associated (take (length boxed - 16) boxed) ≡ drop (length boxed - 16) boxed
        → IsOpening (toy_sealing key nonce associated) boxed (Some (take (length boxed - 16) boxed))
    own_tag low high bytes same =
        let message = take (length boxed - 16) boxed in
        let len : length message ≡ length boxed - 16 = length-take-le (length boxed - 16) boxed (omega arith) in
        let sealing = toy_sealing-Some message (omega arith) in
        let whole : message ++ toy_tag key nonce associated message ≡ boxed = rw same (take-append-drop (length boxed - 16) boxed) in
        (IsBytes-take (length boxed - 16) boxed bytes, rw whole at sealing)
