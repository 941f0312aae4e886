-- The moments at which a default builder can begin.
use Rattle.std.specs.Prelude.{◌+ℤ◌, ◌*◌, ℕ, ℤ, pos}
use Rattle.jiff.specs.Types.{Timestamp}
use Rattle.jiff.specs.Words.{IsTimestampNanos}
use Rattle.rusty_paseto_claims.specs.Moment.{HasShortYear}

-- the moment an hour later
abbrev pub hour_later : Timestamp → ℤ
hour_later now = now.nanosecond +ℤ pos 3_600_000_000_000

-- the moment and the one an hour later are moments with a year from 0 to 9999
pub record FitsDefault (now : Timestamp) : Type 0 where
  pub year : HasShortYear now.nanosecond
  pub later : IsTimestampNanos (hour_later now)
  pub later_year : HasShortYear (hour_later now)

-- the moment so many seconds later
abbrev pub seconds_later : ℕ → Timestamp → ℤ
seconds_later seconds now = now.nanosecond +ℤ pos (seconds * 1_000_000_000)

-- there is such a moment, and its year is from 0 to 9999
pub record HasText (moment : ℤ) : Type 0 where
  pub is_moment : IsTimestampNanos moment
  pub year : HasShortYear moment
