use Rattle.std.proofs.Common.{rules}
use Rattle.rusty_paseto_paserk.specs.Id.{id_of_text}
use Rattle.rusty_paseto_paserk.proofs.id.id_of.Goals as goal

pub returns-clause-ok : goal.returns-clause-ok
unfolding id_of_text
returns-clause-ok c = search rules
