use Rattle.rusty_paseto_generic.proofs.AnswerLaws.{boxed_answers_text}
use Rattle.rusty_paseto_generic.proofs.laws.boxed_answers_text.Goals as goal

pub returns : goal.returns
returns c = boxed_answers_text
