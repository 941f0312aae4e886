use Rattle.std.proofs.Common.{arith, ◌≤ℤ◌, pos}
use Rattle.jiff.proofs.SpanFacts.{signed_arith}
use Rattle.rusty_paseto_claims.proofs.MomentLemmas.{short_year}
use Rattle.rusty_paseto_claims.proofs.moment.has_short_year.Goals as goal

pub returns-then-year-lt0 : goal.returns-then-year-lt0
returns-then-year-lt0 c short =
    let year = short_year _ c.civil.result c.civil.ensures short in
    omega (arith, signed_arith, year.0, c.year.ensures, c.if-year-lt0.true)

pub returns : goal.returns
returns c =
    let from : pos 0 ≤ℤ c.civil.result.date.year = omega (arith, signed_arith, c.year.ensures, c.if-year-lt0.false) in
    let to : c.civil.result.date.year ≤ℤ pos 9999 = omega (arith, signed_arith, c.civil.result.date.year_in) in
    (c.civil.result, c.civil.ensures, from, to)
