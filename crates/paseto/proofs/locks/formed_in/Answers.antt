use Rattle.std.proofs.Common.{inl, inr}
use Rattle.std.proofs.lemmas.Result.{IfErr-weaker, IfOk-weaker}
use Rattle.paseto_keys.specs.AnyKey.{parts_of}
use Rattle.paseto.proofs.locks.formed_in.Goals as goal

pub returns-in-Ok-clause-opened : goal.returns-in-Ok-clause-opened
returns-in-Ok-clause-opened c =
    let held = c.in-Ok.ensures.found in
    IfOk-weaker c.formed.result _ _ (λ made is. (held.0, parts_of c.in-Ok.key, held.1, held.2, is)) c.formed.ensures.formed

pub returns-in-Ok-clause-refused : goal.returns-in-Ok-clause-refused
returns-in-Ok-clause-refused c =
    let held = c.in-Ok.ensures.found in
    IfErr-weaker c.formed.result _ _ (λ fault is. inr (held.0, parts_of c.in-Ok.key, held.1, held.2, is)) c.formed.ensures.refused

pub returns-in-Err-clause-refused : goal.returns-in-Err-clause-refused
returns-in-Err-clause-refused c = inl c.in-Err.ensures.refused
