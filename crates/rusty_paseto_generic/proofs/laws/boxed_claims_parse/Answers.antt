use Rattle.rusty_paseto_generic.proofs.AnswerLaws.{boxed_claims_parse}
use Rattle.rusty_paseto_generic.proofs.laws.boxed_claims_parse.Goals as goal

pub returns : goal.returns
returns c = boxed_claims_parse
