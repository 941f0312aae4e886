use Rattle.std.proofs.Common.{refl}
use Rattle.std.proofs.lemmas.Result.{err_from_is_err_and}
use Rattle.paseto_calls.specs.Request.{refused}
use Rattle.paseto_calls.proofs.KeyWhole.{naming_apart}
use Rattle.paseto_calls.proofs.Taken.{exit_made, fault_refuses}
use Rattle.paseto_calls.proofs.Whole.{whole_of}
use Rattle.paseto_calls.proofs.key_calls.id.Goals as goal

pub returns-in_err-key-clause-made : goal.returns-in_err-key-clause-made
returns-in_err-key-clause-made c =
    exit_made _ _ _ (err_from_is_err_and c.from_residual.result c.from_residual.ensures.1) (fault_refuses _ _ c.in_err-key.ensures)

pub returns-in_err-key-clause-whole : goal.returns-in_err-key-clause-whole
returns-in_err-key-clause-whole c = whole_of _ (naming_apart c.args.key.now) _ (returns-in_err-key-clause-made c)

pub returns-in_err-id-clause-made : goal.returns-in_err-id-clause-made
returns-in_err-id-clause-made c =
    exit_made _ _ _ (err_from_is_err_and c.from_residual-in_err-id.result c.from_residual-in_err-id.ensures.1)
    (refused _ (record { fine = c.in_ok-key.ensures.1; texts = tt }) (_, rw c.in_ok-key.ensures.0 at c.in_err-id.ensures, refl))

pub returns-in_err-id-clause-whole : goal.returns-in_err-id-clause-whole
returns-in_err-id-clause-whole c = whole_of _ (naming_apart c.args.key.now) _ (returns-in_err-id-clause-made c)

pub returns-clause-made : goal.returns-clause-made
returns-clause-made c = record {
  taken = record { fine = c.in_ok-key.ensures.1; texts = tt };
  makes = (_, rw c.in_ok-key.ensures.0 at c.in_ok-id.ensures, refl);
}
