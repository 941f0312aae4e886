use Rattle.paseto_weierstrass_laws.proofs.MultipleLaws.{joint-sum}
use Rattle.paseto_weierstrass_laws.proofs.multiples.joint_multiple_is_sum.Goals as goal

pub returns : goal.returns
returns c = λ p q bits k l hp hq hk hl. (joint-sum p q bits k l hp hq hk hl).same
