use Rattle.paseto_weierstrass_laws.proofs.SumLaws.{sum-neutral}
use Rattle.paseto_weierstrass_laws.proofs.group.sum_with_neutral.Goals as goal

pub returns : goal.returns
returns c = sum-neutral
