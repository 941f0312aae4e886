-- What the checks of the times `exp` and `nbf` find at a moment, which is a number of nanoseconds since
-- 1970-01-01T00:00:00Z, with a leeway in seconds. Which texts are a date and time is jiff's (RFC 3339, section 5.6).
use Rattle.std.specs.Prelude.{ℕ, ℤ, pos, ◌*◌, ◌+ℤ◌, ◌-ℤ◌, List, if◌then◌else◌, int_le, Option, Some, None, Result, Ok, Err}
use Rattle.jiff.specs.Words.{Error, parse_timestamp}
use Rattle.jiff.specs.declared.Timestamp.{Timestamp}
use Rattle.serde_json.specs.Data.{null, string}
use Rattle.rusty_paseto_claims.specs.Error.{Fault, expired, malformed_date, unexpected, use_before_available}
use Rattle.rusty_paseto_generic.specs.Validator.{Verdict}
use Rattle.rusty_paseto_generic.specs.declared.parsers.times.Times.{Times}

-- at a moment, with a leeway of so many seconds
abbrev pub times_at : Timestamp → ℕ → Times
times_at moment leeway = record { moment = moment; leeway = leeway }

-- the leeway in nanoseconds
abbrev pub leeway_of : Times → ℤ
leeway_of times = pos (times.leeway * 1_000_000_000)

-- when `exp` is checked: by the leeway earlier
abbrev pub expires_at : Times → ℤ
expires_at times = times.moment.nanosecond -ℤ leeway_of times

-- when `nbf` is checked: by the leeway later
abbrev pub usable_at : Times → ℤ
usable_at times = times.moment.nanosecond +ℤ leeway_of times

-- the fault of a text: that of its instant, or that it has none
abbrev pub text_fault : List ℕ → (ℤ → Option Fault) → Result ℤ Error → Option Fault
text_fault text fault (Ok instant) = fault instant
text_fault text fault (Err error) = Some (malformed_date text)

-- the fault of a value that is null, or a text with an instant: null has none
abbrev pub time_fault : (List ℕ → ℤ → Option Fault) → Verdict
time_fault fault key null = None
time_fault fault key (string text) = text_fault text (fault text) (parse_timestamp text)
time_fault fault key other = Some (unexpected key)

-- a token has expired from the instant on
abbrev pub expiry : Times → Verdict
expiry times = time_fault (λ text instant. if int_le instant (expires_at times) then Some expired else None)

-- a token may be used after the instant
abbrev pub not_before : Times → Verdict
not_before times = time_fault (λ text instant. if int_le (usable_at times) instant then Some (use_before_available text) else None)
