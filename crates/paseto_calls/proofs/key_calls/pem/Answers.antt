use Rattle.std.proofs.lemmas.Result.{err_from_is_err_and}
use Rattle.paseto_calls.proofs.FormWhole.{pem_apart}
use Rattle.paseto_calls.proofs.KeyExits.{form_makes, form_refuses}
use Rattle.paseto_calls.proofs.Taken.{exit_made, fault_refuses}
use Rattle.paseto_calls.proofs.Whole.{whole_of}
use Rattle.paseto_calls.proofs.key_calls.pem.Goals as goal

pub returns-in_err-key-clause-made : goal.returns-in_err-key-clause-made
returns-in_err-key-clause-made c =
    exit_made _ _ _ (err_from_is_err_and c.from_residual.result c.from_residual.ensures.1) (fault_refuses _ _ c.in_err-key.ensures)

pub returns-in_err-key-clause-whole : goal.returns-in_err-key-clause-whole
returns-in_err-key-clause-whole c = whole_of _ (pem_apart c.args.key.now) _ (returns-in_err-key-clause-made c)

pub returns-in_err-pem_of-clause-made : goal.returns-in_err-pem_of-clause-made
returns-in_err-pem_of-clause-made c =
    exit_made _ _ _ (err_from_is_err_and c.from_residual-in_err-pem_of.result c.from_residual-in_err-pem_of.ensures.1)
    (form_refuses _ _ _ c.in_ok-key.ensures.1 _ (rw c.in_ok-key.ensures.0 at c.in_err-pem_of.ensures))

pub returns-in_err-pem_of-clause-whole : goal.returns-in_err-pem_of-clause-whole
returns-in_err-pem_of-clause-whole c = whole_of _ (pem_apart c.args.key.now) _ (returns-in_err-pem_of-clause-made c)

pub returns-clause-made : goal.returns-clause-made
returns-clause-made c = form_makes _ _ _ c.in_ok-key.ensures.1 _ (rw c.in_ok-key.ensures.0 at c.in_ok-pem_of.ensures)
