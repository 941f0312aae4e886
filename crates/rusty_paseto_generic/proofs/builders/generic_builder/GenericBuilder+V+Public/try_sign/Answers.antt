use Rattle.std.proofs.Common.{rules}
use Rattle.rusty_paseto_generic.proofs.builders.generic_builder.GenericBuilder+V+Public.try_sign.Goals as goal

pub returns-clause-answer : goal.returns-clause-answer
returns-clause-answer g c = search rules
