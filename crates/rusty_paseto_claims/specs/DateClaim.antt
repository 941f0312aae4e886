-- Which texts are a date and time (RFC 3339, section 5.6, as jiff reads it).
use Rattle.std.specs.Prelude.{◌≡◌, ℕ, List, Result, IsOk, IfOk, IfErr, ⊤, MatchOption}
use Rattle.jiff.specs.Types.{Timestamp}
use Rattle.jiff.specs.Words.{parse_timestamp}
use Rattle.rusty_paseto_claims.specs.Error.{malformed_date, fault_of, IsFault}
use Rattle.rusty_paseto_claims.specs.Moment.{HasShortYear, IsMomentText}
use Rattle.rusty_paseto_claims.specs.declared.error.PasetoClaimError.{PasetoClaimError}

-- an instant is read from the text
unfoldable pub IsDate : List ℕ → Type 0
IsDate text = IsOk (parse_timestamp text)

-- the answer is the text where an instant is read from it, and else that it is malformed
pub record IsDateAtOnce (text : List ℕ) (answer : Result (List ℕ) PasetoClaimError) : Type 0 where
  pub kept : IfOk answer (λ claim. (claim ≡ text) × IsDate text)
  pub refused : IfErr answer (λ error. IsFault (malformed_date text) error × ¬ IsDate text)

-- the same, unless memory was refused
pub record IsDateOf (text : List ℕ) (answer : Result (List ℕ) PasetoClaimError) : Type 0 where
  pub kept : IfOk answer (λ claim. (claim ≡ text) × IsDate text)
  pub refused : IfErr answer (λ error. MatchOption (fault_of error) ⊤ (λ fault. (fault ≡ malformed_date text) × ¬ IsDate text))

-- the error says that RFC 3339 has no text for the moment, and has its text
pub record IsUnfitMoment (moment : Timestamp) (error : PasetoClaimError) : Type 0 where
  pub year : ¬ HasShortYear moment.nanosecond
  pub text : List ℕ
  pub is_text : IsMomentText moment.nanosecond text
  pub fault : IsFault (malformed_date text) error
