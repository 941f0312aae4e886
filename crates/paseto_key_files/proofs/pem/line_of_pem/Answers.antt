use Rattle.paseto_key_files.proofs.PemLaws.{in_pem, not_in_pem}
use Rattle.paseto_key_files.proofs.pem.line_of_pem.Goals as goal

pub returns-in-Ok : goal.returns-in-Ok
returns-in-Ok c = in_pem c.args.text.now c.in-Ok.key c.in-Ok.ensures c.line_of_key.result c.line_of_key.ensures.ok c.line_of_key.ensures.err

pub returns-in-Err : goal.returns-in-Err
returns-in-Err c = rw c.from.ensures (not_in_pem c.args.text.now c.in-Err.error c.in-Err.ensures)
