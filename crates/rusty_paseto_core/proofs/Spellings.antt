-- The forms of a token: one text, up to the dot before the section of an empty footer.
use Rattle.std.proofs.Common.{◌≡◌, ℕ, List, [], ◌∷◌, ◌++◌, Bool, true, false, refl, sym, ap, ◌∙◌, inl, inr}
use Rattle.std.proofs.lemmas.List.{append-nil}
use Rattle.rusty_paseto_parts.specs.Section.{base64url}
use Rattle.rusty_paseto_parts.proofs.SectionLemmas.{base64url-nil}
use Rattle.rusty_paseto_core.specs.Framing.{SameUpToDot, footer_part, framing}
use Rattle.rusty_paseto_core.specs.Reading.{IsForm}

-- the section of an empty footer adds a dot
dotted : (front payload footer : List ℕ) → footer ≡ [] → framing front payload true footer ≡ framing front payload false footer ++ 46 ∷ []
unfolding framing footer_part
dotted front payload footer none =
    let section : base64url footer ≡ [] = ap base64url none ∙ base64url-nil in
    rw section (sym (ap (λ (l : List ℕ). l ++ 46 ∷ []) (append-nil (front ++ base64url payload))))

-- the forms of a token
pub forms : (front payload footer : List ℕ) (a b : Bool) → IsForm a footer → IsForm b footer
    → SameUpToDot footer (framing front payload a footer) (framing front payload b footer)
forms front payload footer true true one other = inl refl
forms front payload footer false false one other = inl refl
forms front payload footer true false one other = inr (other, inl (dotted front payload footer other))
forms front payload footer false true one other = inr (one, inr (dotted front payload footer one))

-- two framings of one payload, under one footer, in forms that it allows
pub same_up_to_dot : (front payload footer first second : List ℕ) (a b : Bool) → IsForm a footer → IsForm b footer
    → first ≡ framing front payload a footer → second ≡ framing front payload b footer → SameUpToDot footer first second
same_up_to_dot front payload footer first second a b one other is_first is_second =
    rw (is_first, is_second) (forms front payload footer a b one other)
