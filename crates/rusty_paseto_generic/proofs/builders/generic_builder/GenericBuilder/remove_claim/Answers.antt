use Rattle.std.proofs.Common.{rules}
use Rattle.rusty_paseto_generic.proofs.builders.generic_builder.GenericBuilder.remove_claim.Goals as goal

pub returns-clause-claims : goal.returns-clause-claims
returns-clause-claims g c = search rules

pub returns-clause-gone : goal.returns-clause-gone
returns-clause-gone g c = search rules
