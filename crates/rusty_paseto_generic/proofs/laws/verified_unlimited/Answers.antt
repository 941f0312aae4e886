use Rattle.rusty_paseto_generic.proofs.AnswerLaws.{verified_unlimited}
use Rattle.rusty_paseto_generic.proofs.laws.verified_unlimited.Goals as goal

pub returns : goal.returns
returns g c = verified_unlimited g.V.Verifies.valid g.V.Verifies.refused g.V.PublicSuite.public_design
