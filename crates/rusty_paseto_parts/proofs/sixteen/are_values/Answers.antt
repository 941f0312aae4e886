use Rattle.rusty_paseto_parts.proofs.SixteenLemmas.{all_values}
use Rattle.rusty_paseto_parts.proofs.sixteen.are_values.Goals as goal

pub returns : goal.returns
returns c = all_values c.args.values c.fits-values.0
