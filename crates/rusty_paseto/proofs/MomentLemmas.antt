-- Facts about the moments at which a default builder begins.
use Rattle.std.proofs.Common.{◌≡◌, MatchBool, Bool, true, false, sym, subst}
use Rattle.jiff.specs.Types.{Timestamp}
use Rattle.jiff.specs.Words.{IsTimestampNanos}
use Rattle.rusty_paseto_claims.specs.Moment.{HasShortYear}
use Rattle.rusty_paseto.specs.Moment.{FitsDefault, hour_later}

-- the moment and the one an hour later are looked at one after the other
pub fits_later : (now later : Timestamp) (short : Bool) → later.nanosecond ≡ hour_later now → HasShortYear now.nanosecond
    → MatchBool short (HasShortYear later.nanosecond) (¬ HasShortYear later.nanosecond)
    → MatchBool short (FitsDefault now) (¬ FitsDefault now)
fits_later now later true is year is_short =
    record { year = year; later = subst IsTimestampNanos is later.in_range; later_year = subst HasShortYear is is_short }
fits_later now later false is year is_long = λ fits. is_long (subst HasShortYear (sym is) fits.later_year)
