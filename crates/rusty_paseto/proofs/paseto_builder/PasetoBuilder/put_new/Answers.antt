use Rattle.std.proofs.Common.{rules}
use Rattle.rusty_paseto.proofs.paseto_builder.PasetoBuilder.put_new.Goals as goal

pub returns-in-Err-clause-err_keys : goal.returns-in-Err-clause-err_keys
returns-in-Err-clause-err_keys g c = search rules
