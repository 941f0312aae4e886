use Rattle.paseto_keys.proofs.UnlockLaws.{not_unlocked, unlocked_key}
use Rattle.paseto_keys.proofs.any_key.AnyKey.unlock.Goals as goal

pub returns-in-Ok : goal.returns-in-Ok
returns-in-Ok c =
    unlocked_key c.args.openers.now c.args.text.now c.in-Ok.line c.in-Ok.ensures c.from_line.result (rw c.as_str.ensures.value at c.from_line.ensures)

pub returns-in-Err : goal.returns-in-Err
returns-in-Err c = not_unlocked c.args.openers.now c.args.text.now c.in-Err.error c.in-Err.ensures
