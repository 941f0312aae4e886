use Rattle.std.proofs.Common.{rules}
use Rattle.rusty_paseto.proofs.paseto_builder.PasetoBuilder.set_footer.Goals as goal

pub returns-clause-change : goal.returns-clause-change
returns-clause-change g c = search rules
