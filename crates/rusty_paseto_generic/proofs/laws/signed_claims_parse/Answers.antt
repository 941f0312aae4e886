use Rattle.rusty_paseto_generic.proofs.AnswerLaws.{signed_claims_parse}
use Rattle.rusty_paseto_generic.proofs.laws.signed_claims_parse.Goals as goal

pub returns : goal.returns
returns g c = signed_claims_parse g.V.Verifies.valid g.V.Verifies.refused g.V.PublicSuite.public_design
