use Rattle.rusty_paseto_paserk.specs.Rsa.{IsSecretForm}
use Rattle.rusty_paseto_paserk.specs.declared.header.PaserkType.TheVariants.{Secret}
use Rattle.paseto_key_files.proofs.LineLaws.{form_read, form_refused}
use Rattle.paseto_keys.proofs.line.rsa_private_of.Goals as goal

pub returns-in-Ok : goal.returns-in-Ok
returns-in-Ok c = form_read Secret IsSecretForm c.args.line.now c.in-Ok.key c.in-Ok.ensures

pub returns-in-Err : goal.returns-in-Err
returns-in-Err c = rw c.from.ensures (form_refused Secret IsSecretForm c.args.line.now c.in-Err.error c.in-Err.ensures)
