use Rattle.rusty_paseto_generic.proofs.AnswerLaws.{sealed_claims_parse}
use Rattle.rusty_paseto_generic.proofs.laws.sealed_claims_parse.Goals as goal

pub returns : goal.returns
returns g c = sealed_claims_parse g.V.LocalSuite.design g.met.V.LocalSuite.lawful
