use Rattle.rusty_paseto_generic.proofs.AnswerLaws.{opened_unlimited}
use Rattle.rusty_paseto_generic.proofs.laws.opened_unlimited.Goals as goal

pub returns : goal.returns
returns g c = opened_unlimited g.V.LocalSuite.design
