-- Facts about moments and their texts.
use Rattle.std.proofs.Common.{◌≡◌, ◌≤ℤ◌, ◌++◌, ◌∙◌, ℕ, ℤ, pos, List, Result, Ok, Err, IfOk, String, Global, codes, string_bytes, sym, subst, ap, refl}
use Rattle.jiff.specs.Names.{iso_datetime_text}
use Rattle.jiff.specs.Types.{DateTime, Timestamp}
use Rattle.jiff.specs.Words.{parse_timestamp}
use Rattle.jiff.proofs.Family.{same_datetime, parse_timestamp-text}
use Rattle.rusty_paseto_claims.specs.DateClaim.{IsDate}
use Rattle.rusty_paseto_claims.specs.Moment.{HasShortYear, IsCivil, IsMomentText}

-- a moment's year is that of its date and time
pub short_year : (moment : ℤ) (civil : DateTime) → IsCivil moment civil → HasShortYear moment
    → (pos 0 ≤ℤ civil.date.year) × (civil.date.year ≤ℤ pos 9999)
short_year moment civil is short =
    subst (λ d. (pos 0 ≤ℤ d.date.year) × (d.date.year ≤ℤ pos 9999)) (same_datetime short.0 civil (short.1 ∙ sym is)) (short.2, short.3)

-- the text of the date and time of a moment is that of the moment
pub moment_text : {E : Type 0} (result : Result (String Global) E) (civil : DateTime) (moment : ℤ) → IsCivil moment civil
    → IfOk result (λ text. string_bytes text ≡ iso_datetime_text civil ++ codes "Z") → IfOk result (λ text. IsMomentText moment (string_bytes text))
moment_text (Ok text) civil moment at is = (civil, at, is)
moment_text (Err error) civil moment at is = tt

-- the text of a moment is read as the moment
pub moment_read : (moment : Timestamp) (text : List ℕ) → IsMomentText moment.nanosecond text → parse_timestamp text ≡ Ok moment.nanosecond
moment_read moment text says = rw says.2 (parse_timestamp-text says.0 moment says.1)

-- and so it is a date
pub moment_date : (moment : Timestamp) (text : List ℕ) → IsMomentText moment.nanosecond text → IsDate text
unfolding IsDate
moment_date moment text says = rw (moment_read moment text says) refl

-- a moment has one text
pub same_text : (moment : ℤ) (one two : List ℕ) → IsMomentText moment one → IsMomentText moment two → one ≡ two
same_text moment one two a b =
    a.2 ∙ ap (λ (c : DateTime). iso_datetime_text c ++ codes "Z") (same_datetime a.0 b.0 (a.1 ∙ sym b.1)) ∙ sym b.2
