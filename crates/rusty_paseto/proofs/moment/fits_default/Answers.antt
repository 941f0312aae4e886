use Rattle.rusty_paseto.proofs.MomentLemmas.{fits_later}
use Rattle.rusty_paseto.proofs.moment.fits_default.Goals as goal

pub returns-then-has_short_year : goal.returns-then-has_short_year
returns-then-has_short_year c =
    fits_later c.args.now c.in-Ok.later _ c.in-Ok.ensures.ok c.if-has_short_year.ensures c.has_short_year-then-has_short_year.ensures
