-- What the box opens: a xored message and its tag, and nothing else.
use Rattle.std.proofs.Common.{◌≡◌, ◌≢◌, ℕ, ◌+◌, ◌-◌, ◌<◌, ◌≤◌, List, ◌++◌, Some, None, Result, Ok, Err, IfErr, length, take, drop, refl, sym, ap, ◌∙◌, arith, length-append}
use Rattle.std.proofs.lemmas.Bool.{le-leb, lt-leb}
use Rattle.std.proofs.lemmas.List.{take_at, drop_at, take-append-drop, length-take-le}
use Rattle.rusty_paseto_primitives.specs.Bytes.{IsBytes}
use Rattle.rusty_paseto_primitives.proofs.ByteLists.{IsBytes-take}
use Rattle.rusty_paseto_core.specs.Local.SealedBox.{IsOpening}
use Rattle.paseto_xchacha20poly1305.specs.Sealing.{box_sealing, xored_text, text_tag}
use Rattle.paseto_xchacha20poly1305.specs.SealingLaws.{box_sealing-parts, IsBytes-xored_text, length-xored_text, length-text_tag, xored_text-twice}

-- what holds anyway holds where there is an error
pub where_err : {P T E : Type 0} (result : Result T E) → P → IfErr result (λ error. P)
where_err (Ok value) p = tt
where_err (Err error) p = p

module _ (key nonce associated : List ℕ) where
  -- a message that is not too long
  pub box_sealing-Some : (message : List ℕ) → length message ≤ 274877906880
      → box_sealing key nonce associated message
      ≡ Some (xored_text key nonce message ++ text_tag key nonce associated (xored_text key nonce message))
  unfolding box_sealing
  box_sealing-Some message fits = rw (le-leb (length message) 274877906880 fits) refl

  -- a message that is too long
  pub box_sealing-None : (message : List ℕ) → 274877906880 < length message → box_sealing key nonce associated message ≡ None
  unfolding box_sealing
  box_sealing-None message long = rw (lt-leb (length message) 274877906880 long) refl

  length-boxed : (message boxed : List ℕ) → box_sealing key nonce associated message ≡ Some boxed → length boxed ≡ length message + 16
  length-boxed message boxed is =
      let text = xored_text key nonce message in
      let whole = (box_sealing-parts key nonce associated message boxed is).1 in
      omega (
        arith,
        length-append text (text_tag key nonce associated text),
        length-xored_text key nonce message,
        length-text_tag key nonce associated text,
        ap length whole,
      )

  module _ (boxed : List ℕ) where
    pub too_short : length boxed < 16 → IsOpening (box_sealing key nonce associated) boxed None
    too_short short message bytes is = omega (arith, length-boxed message boxed is)

    pub too_long : 274877906896 < length boxed → IsOpening (box_sealing key nonce associated) boxed None
    too_long long message bytes is =
        omega (arith, length-boxed message boxed is, (box_sealing-parts key nonce associated message boxed is).0)

    -- bytes that end in another tag
    pub other_tag : text_tag key nonce associated (take (length boxed - 16) boxed) ≢ drop (length boxed - 16) boxed
        → IsOpening (box_sealing key nonce associated) boxed None
    other_tag differs message bytes is =
        let text = xored_text key nonce message in
        let whole = (box_sealing-parts key nonce associated message boxed is).1 in
        let end : length text ≡ length boxed - 16 =
        omega (arith, length-boxed message boxed is, length-xored_text key nonce message) in
        let front : take (length boxed - 16) boxed ≡ text =
        rw (← whole) (take_at text (text_tag key nonce associated text) _ (rw whole end)) in
        let back : drop (length boxed - 16) boxed ≡ text_tag key nonce associated text =
        rw (← whole) (drop_at text (text_tag key nonce associated text) _ (rw whole end)) in
        differs (rw front (sym back))

    -- bytes that end in their tag
    pub own_tag : 16 ≤ length boxed → length boxed ≤ 274877906896 → IsBytes boxed
        → text_tag key nonce associated (take (length boxed - 16) boxed) ≡ drop (length boxed - 16) boxed
        → IsOpening (box_sealing key nonce associated) boxed (Some (xored_text key nonce (take (length boxed - 16) boxed)))
    own_tag low high bytes same =
        let text = take (length boxed - 16) boxed in
        let message = xored_text key nonce text in
        let len : length message ≡ length boxed - 16 =
        length-xored_text key nonce text ∙ length-take-le (length boxed - 16) boxed (omega arith) in
        let sealing = box_sealing-Some message (omega arith) in
        let whole : xored_text key nonce message ++ text_tag key nonce associated (xored_text key nonce message) ≡ boxed =
        rw (xored_text-twice key nonce text, same) (take-append-drop (length boxed - 16) boxed) in
        (IsBytes-xored_text key nonce text (IsBytes-take (length boxed - 16) boxed bytes), rw whole at sealing)
