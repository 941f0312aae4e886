use Rattle.std.proofs.Common.{subst, sym}
use Rattle.jiff.specs.Words.{IsTimestampNanos}
use Rattle.rusty_paseto_claims.specs.Moment.{HasShortYear}
use Rattle.rusty_paseto.proofs.moment.seconds_after.Goals as goal

pub returns-then-not-has_short_year-clause-none : goal.returns-then-not-has_short_year-clause-none
returns-then-not-has_short_year-clause-none c _ has = c.if-not-has_short_year.ensures (subst HasShortYear (sym c.in-Ok.ensures.ok) has.year)

pub returns-clause-found : goal.returns-clause-found
returns-clause-found c =
    let value = c.in-Ok.ensures.ok in
    (value, record { is_moment = subst IsTimestampNanos value c.in-Ok.end.in_range; year = subst HasShortYear value c.if-not-has_short_year.ensures })
