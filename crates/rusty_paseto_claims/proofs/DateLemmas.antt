-- What jiff's reading says of a text.
use Rattle.std.proofs.Common.{◌≡◌, ℕ, ℤ, List, Bool, true, false, Result, Ok, Err, IsTrue, String, Global, codes, string_bytes, is_ok, refl, sym, ◌∙◌}
use Rattle.std.specs.Result.{result_map_both}
use Rattle.jiff.specs.Words.{Error, parse_timestamp}
use Rattle.jiff.proofs.OnLiterals.{jiff_on_literals}
use Rattle.rusty_paseto_claims.specs.DateClaim.{IsDate}

-- a reading that succeeds tells a date
pub read_date : {T : Type 0} (nanosecond : T → ℤ) (answer : Result T Error) (text : List ℕ) (ok : Bool) → result_map_both nanosecond (λ e. e) answer ≡ parse_timestamp text
    → ok ≡ is_ok answer → (IsTrue ok → IsDate text) × (IsDate text → IsTrue ok)
unfolding IsDate
read_date nanosecond (Ok instant) text ok reads is = (λ _. rw (← reads) refl, λ _. is)
read_date nanosecond (Err error) text ok reads is = (λ h. let none : true ≡ false = sym h ∙ is in cc none, λ h. let none = rw (← reads) at h in cc none)

-- the text that a claim has by default
default_text : IsDate (codes "2019-01-01T00:00:00+00:00")
unfolding IsDate jiff_on_literals
default_text = refl

pub default_date : (text : String Global) → string_bytes text ≡ codes "2019-01-01T00:00:00+00:00" → IsDate (string_bytes text)
default_date text is = rw is default_text
