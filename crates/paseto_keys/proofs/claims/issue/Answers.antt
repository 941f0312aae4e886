use Rattle.std.proofs.lemmas.Result.{err_from_is_err_and}
use Rattle.paseto_keys.proofs.Issuing.{no_payload}
use Rattle.paseto_keys.proofs.Used.{used}
use Rattle.paseto_keys.proofs.claims.issue.Goals as goal

pub returns-in_err-text-clause-answer : goal.returns-in_err-text-clause-answer
returns-in_err-text-clause-answer g c =
    let checked = rw (c.writes_tokens.ensures, c.key_type.ensures) at c.in_ok-check_use.ensures in
    let p = err_from_is_err_and c.from_residual-in_err-text.result c.from_residual-in_err-text.ensures.1 in
    rw (p.1, p.2) (used _ _ checked (λ fits bound. no_payload _ _ _ _ _ _ _ (rw c.draws.ensures at c.in_ok-check_length.ensures)))
