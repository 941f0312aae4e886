use Rattle.std.proofs.Common.{rules}
use Rattle.rusty_paseto.proofs.paseto_builder.PasetoBuilder.build_payload_from_claims.Goals as goal

pub returns-clause-ok : goal.returns-clause-ok
returns-clause-ok g c = search rules

pub returns-clause-read_back : goal.returns-clause-read_back
returns-clause-read_back g c = search rules
