use Rattle.rusty_paseto_parts.proofs.SixteenLemmas.{sixteen_lanes}
use Rattle.rusty_paseto_parts.proofs.sixteen.values.Goals as goal

pub returns : goal.returns
returns c f fits e = rw e (sixteen_lanes f fits)
