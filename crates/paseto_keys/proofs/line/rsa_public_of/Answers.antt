use Rattle.rusty_paseto_paserk.specs.Rsa.{IsPublicForm}
use Rattle.rusty_paseto_paserk.specs.declared.header.PaserkType.TheVariants.{Public}
use Rattle.paseto_key_files.proofs.LineLaws.{form_read, form_refused}
use Rattle.paseto_keys.proofs.line.rsa_public_of.Goals as goal

pub returns-in-Ok : goal.returns-in-Ok
returns-in-Ok c = form_read Public IsPublicForm c.args.line.now c.in-Ok.key c.in-Ok.ensures

pub returns-in-Err : goal.returns-in-Err
returns-in-Err c = rw c.from.ensures (form_refused Public IsPublicForm c.args.line.now c.in-Err.error c.in-Err.ensures)
