use Rattle.rusty_paseto_generic.proofs.AnswerLaws.{verified_answers_text}
use Rattle.rusty_paseto_generic.proofs.laws.verified_answers_text.Goals as goal

pub returns : goal.returns
returns g c = verified_answers_text g.V.Verifies.valid g.V.Verifies.refused g.V.PublicSuite.public_design g.met.V.PublicSuite.public_lawful.is_header
