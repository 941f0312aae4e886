-- Whether more stands behind a key in PASERK.
use Rattle.std.proofs.Common.{◌≡◌, ◌∙◌, ◌==◌, inl, inr, ℕ, List, Bool, true, false, Option, None, Some, IsNone, IfSome, MatchBool, is_some, refl, sym}
use Rattle.std.specs.List.{list_any}
use Rattle.rusty_paseto_paserk.specs.Header.{HasNoHeader}
use Rattle.rusty_paseto_paserk.specs.declared.header.PaserkVersion.{PaserkVersion}
use Rattle.paseto_wrapping.specs.Header as locked
use Rattle.paseto_wrapping.specs.declared.header.WrappedType.{WrappedType}
use Rattle.paseto_pem.specs.Text.{HoldsPem}
use Rattle.paseto.specs.Keys.{HasSecondLine, IsLikePaserk}

not_like : (text : List ℕ) → HasNoHeader text → locked.HasNoHeader text → ¬ IsLikePaserk text
not_like text bare none (inl is) = bare is.0 is.1 is.2
not_like text bare none (inr is) = none is.0 is.1 is.2

-- a text that begins as no bare key is one in PASERK where it begins as a locked one
pub like_locked : {A : Type 0} (found : Option A) (text : List ℕ) → HasNoHeader text
    → IfSome found (λ x. (version : PaserkVersion) × (kind : WrappedType) × locked.HasHeader version kind text)
    → (IsNone found → locked.HasNoHeader text) → MatchBool (is_some found) (IsLikePaserk text) (¬ IsLikePaserk text)
like_locked None text bare some none = not_like text bare (none refl)
like_locked (Some x) text bare some none = inr some

not_second : (text line : List ℕ) → list_any (λ byte. byte == 10) line ≡ false → ¬ IsLikePaserk text → ¬ HasSecondLine text line
not_second text line no_feed none (inl is) = absurd (let e : true ≡ false = sym is ∙ no_feed in cc)
not_second text line no_feed none (inr is) = none is.1

-- of a text with PEM and a line of it without a line feed, the text's beginning tells
pub by_beginning : (like : Bool) (text line : List ℕ) → list_any (λ byte. byte == 10) line ≡ false → HoldsPem text
    → MatchBool like (IsLikePaserk text) (¬ IsLikePaserk text) → MatchBool like (HasSecondLine text line) (¬ HasSecondLine text line)
by_beginning true text line no_feed pem is = inr (pem, is)
by_beginning false text line no_feed pem is = not_second text line no_feed is
