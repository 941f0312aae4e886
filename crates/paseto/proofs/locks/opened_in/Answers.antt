use Rattle.std.proofs.Common.{Result, Ok, Err, OnOk, inr}
use Rattle.std.proofs.lemmas.Result.{IfErr-weaker}
use Rattle.paseto.proofs.locks.opened_in.Goals as goal

on_any : {T E P : Type 0} (r : Result T E) → P → OnOk r P
on_any (Ok value) is = is
on_any (Err error) is = tt

pub returns-in-Ok-clause-locked : goal.returns-in-Ok-clause-locked
returns-in-Ok-clause-locked c = on_any c.formed_in.result c.in-Ok.ensures.locked

pub returns-in-Ok-clause-refused : goal.returns-in-Ok-clause-refused
returns-in-Ok-clause-refused c = IfErr-weaker c.formed_in.result _ _ (λ fault is. inr is) c.formed_in.ensures.refused
