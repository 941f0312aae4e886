-- Moments and lengths of time, as words say them.
use Rattle.std.specs.Prelude.{◌≡◌, ◌⊎◌, ⊤, true, false, Bool, not, ◌&&◌, int_le, get_or, length, ◌<◌, ◌*◌, ◌^◌, ◌==◌, ◌+ℤ◌, ◌-ℤ◌, ℕ, pos, List, [], ◌∷◌, ◌++◌, if◌then◌else◌, Option, None, Some, MatchResult}
use Rattle.std.specs.Char.{is_ascii_digit}
use Rattle.std.specs.List.{list_all}
use Rattle.std.specs.Str.Parse.{IsNumeral, digits_value, without_leading_plus}
use Rattle.jiff.specs.Types.{Timestamp}
use Rattle.jiff.specs.Words.{IsTimestampNanos, parse_timestamp}
use Rattle.serde_json.specs.Data.{Members, string}
use Rattle.rusty_paseto_claims.specs.Claim.{gives, one_member}
use Rattle.rusty_paseto_claims.specs.DateClaim.{IsDate}
use Rattle.rusty_paseto_claims.specs.Moment.{IsMomentText}
use Rattle.rusty_paseto_claims.specs.declared.error.PasetoClaimError.{PasetoClaimError}
use Rattle.rusty_paseto_claims.specs.declared.error.PasetoClaimError.TheVariants.{Memory as NoClaimMemory}
use Rattle.rusty_paseto_generic.specs.Builders.Claims.{becomes, claim_set}
use Rattle.rusty_paseto.specs.PasetoBuilder.{Counting, counted}
use Rattle.paseto_tasks.specs.declared.error.ProgramError.{ProgramError}
use Rattle.paseto_tasks.specs.declared.error.usage.TimeOption.{TimeOption}
use Rattle.paseto_tasks.specs.declared.error.ProgramError.TheVariants.{System, Usage}
use Rattle.paseto_tasks.specs.declared.error.system.SystemError.TheVariants.{Memory}
use Rattle.paseto_tasks.specs.declared.error.usage.UsageError.{UsageError}
use Rattle.paseto_tasks.specs.declared.error.usage.UsageError.TheVariants.{Negative, Time, TooLong}

-- the word is this number in decimal digits, behind a plus or none, and it is one of 32 bits
pub record IsNumber (word : List ℕ) (number : ℕ) : Type 0 where
  pub numeral : IsNumeral 10 (without_leading_plus word)
  pub value : number ≡ digits_value 10 (without_leading_plus word)
  pub small : number < 2 ^ 32

-- the seconds of a second, a minute, an hour and a day, by the letters s, m, h and d
abbrev pub unit_of : ℕ → Option ℕ
unit_of letter =
    if letter == 115 then Some 1
    else if letter == 109 then Some 60
    else if letter == 104 then Some 3600
    else if letter == 100 then Some 86400
    else None

-- the word ends in the letter of a unit of so many seconds, and this stands in front of it
pub record HasUnit (word front : List ℕ) (unit : ℕ) : Type 0 where
  pub letter : ℕ
  pub spelled : word ≡ front ++ (letter ∷ [])
  pub is_unit : unit_of letter ≡ Some unit

-- the word says a length of so many seconds: a number and a unit
pub record IsLength (word : List ℕ) (seconds : ℕ) : Type 0 where
  pub front : List ℕ
  pub unit : ℕ
  pub number : ℕ
  pub has_unit : HasUnit word front unit
  pub is_number : IsNumber front number
  pub seconds_are : seconds ≡ unit * number

-- the moment is a length of time after the present one, and the word says that length
abbrev pub IsAfter : List ℕ → Timestamp → Timestamp → Type 0
IsAfter word now moment = (seconds : ℕ) × IsLength word seconds × (moment.nanosecond ≡ now.nanosecond +ℤ pos (seconds * 1_000_000_000))

-- the word says a moment: one of RFC 3339, or else one so long after the present one
abbrev pub SaysMoment : List ℕ → Timestamp → Timestamp → Type 0
SaysMoment word now moment = MatchResult (parse_timestamp word) (λ instant. moment.nanosecond ≡ instant) (λ _. IsAfter word now moment)

-- the word says no moment
abbrev pub SaysNone : List ℕ → Timestamp → Type 0
SaysNone word now = (moment : Timestamp) → ¬ SaysMoment word now moment

-- how many seconds clocks may differ by: as many as the word says, which fit 32 bits, or none where there is no word
abbrev pub IsLeeway : Option (List ℕ) → ℕ → Type 0
IsLeeway None seconds = seconds ≡ 0
IsLeeway (Some word) seconds = IsLength word seconds × (seconds < 2 ^ 32)

-- the moment that a word says, where there is a word
abbrev pub SaysTime : Option (List ℕ) → Timestamp → Option Timestamp → Type 0
SaysTime None now moment = moment ≡ None
SaysTime (Some word) now None = ⊥
SaysTime (Some word) now (Some moment) = SaysMoment word now moment

-- no word says that a token has ended: there is none, or it says no moment, or one to come
abbrev pub IsOpenEnd : Option (List ℕ) → Timestamp → Type 0
IsOpenEnd None now = ⊤
IsOpenEnd (Some word) now = SaysNone word now
    ⊎ ((moment : Timestamp) × SaysMoment word now moment × (int_le moment.nanosecond now.nanosecond ≡ false))

-- the moment is a second before the present one, where that is one
abbrev pub IsSecondBefore : Timestamp → Option Timestamp → Type 0
IsSecondBefore now None = ¬ IsTimestampNanos (now.nanosecond -ℤ pos 1_000_000_000)
IsSecondBefore now (Some moment) = moment.nanosecond ≡ now.nanosecond -ℤ pos 1_000_000_000

-- when a token may first be used: as the word says, and where there is none a second before the present moment, so that it
-- is good at once where clocks count whole seconds
abbrev pub BeginsAt : Option (List ℕ) → Timestamp → Option Timestamp → Type 0
BeginsAt None now moment = IsSecondBefore now moment
BeginsAt (Some word) now moment = SaysTime (Some word) now moment

-- the claims of a builder, when the claim of a moment is set, where there is one: its text is read as a moment again
abbrev pub IsTimeSet : List ℕ → Option Timestamp → Members → Members → Type 0
IsTimeSet key None old new = new ≡ old
IsTimeSet key (Some moment) old new = (text : List ℕ) × IsMomentText moment.nanosecond text × IsDate text
    × (claim_set key (gives (one_member key (string text))) old ≡ becomes new)

-- the claim cannot be set, whatever a builder holds
abbrev pub IsNeverSet : List ℕ → Option Timestamp → Type 0
IsNeverSet key moment = (old new : Members) → ¬ IsTimeSet key moment old new

-- the keys that a builder counts, when the claim of a moment is set, where there is one
abbrev pub time_counted : List ℕ → Option Timestamp → Counting → Counting
time_counted key None old = old
time_counted key (Some moment) old = counted key old

-- the word begins with a minus
abbrev pub is_negative : List ℕ → Bool
is_negative word = get_or word 0 0 == 45

-- the word is one or more decimal digits
abbrev pub are_digits : List ℕ → Bool
are_digits word = not (length word == 0) && list_all is_ascii_digit word

-- the word is digits and a unit, and so a length of time, of whatever size
abbrev pub IsLikeLength : List ℕ → Type 0
IsLikeLength word = (front : List ℕ) × (unit : ℕ) × HasUnit word front unit × (are_digits front ≡ true)

-- the error on what an option says that is no time: a negative length, one that is too large, or nothing like one
abbrev pub IsTimeError : TimeOption → List ℕ → UsageError → Type 0
IsTimeError option word error =
    ((error ≡ Negative option) × (is_negative word ≡ true))
    ⊎ (((error ≡ TooLong option) × (is_negative word ≡ false) × IsLikeLength word)
    ⊎ ((error ≡ Time option) × (is_negative word ≡ false) × ¬ IsLikeLength word))

-- the error on what an option says, where that is a word that is no time
abbrev pub IsTimeFault : TimeOption → Option (List ℕ) → ProgramError → Type 0
IsTimeFault option None error = ⊥
IsTimeFault option (Some word) error = (source : UsageError) × (error ≡ Usage source) × IsTimeError option word source

-- why the text of a moment that an option says makes no claim: memory was refused, or the text is no date
abbrev pub claim_error_of : TimeOption → PasetoClaimError → ProgramError
claim_error_of option (NoClaimMemory source) = System (Memory source)
claim_error_of option _ = Usage (Time option)
