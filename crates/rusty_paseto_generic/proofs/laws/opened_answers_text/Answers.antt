use Rattle.rusty_paseto_generic.proofs.AnswerLaws.{opened_answers_text}
use Rattle.rusty_paseto_generic.proofs.laws.opened_answers_text.Goals as goal

pub returns : goal.returns
returns g c = opened_answers_text g.V.LocalSuite.design g.met.V.LocalSuite.lawful
