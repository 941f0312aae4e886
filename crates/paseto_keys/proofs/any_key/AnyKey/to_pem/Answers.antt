use Rattle.paseto_keys.specs.AnyKey.{parts_of}
use Rattle.paseto_keys.proofs.FormLaws.{by_line, by_no_line}
use Rattle.paseto_keys.proofs.any_key.AnyKey.to_pem.Goals as goal

pub returns-in-Ok : goal.returns-in-Ok
returns-in-Ok c =
    by_line (parts_of c.args.self.now) _ _ _ c.in-Ok.ensures.ok c.pem_of.result (rw c.as_str.ensures.value at c.pem_of.ensures.ok)
    (rw c.as_str.ensures.value at c.pem_of.ensures.err)

pub returns-in-Err : goal.returns-in-Err
returns-in-Err c = by_no_line (parts_of c.args.self.now) _ _ c.in-Err.error c.in-Err.ensures.refused
