use Rattle.std.proofs.Common.{inl, inr}
use Rattle.std.proofs.lemmas.Result.{err_from_is_err_and}
use Rattle.paseto_calls.proofs.FormWhole.{protecting_apart}
use Rattle.paseto_calls.proofs.KeyExits.{form_makes, form_refuses, lineless}
use Rattle.paseto_calls.proofs.Taken.{exit_made, fault_refuses, first_fault, no_fault, second_fault}
use Rattle.paseto_calls.proofs.Whole.{whole_of}
use Rattle.paseto_calls.proofs.key_calls.protect.Goals as goal

pub returns-in_err-key-clause-made : goal.returns-in_err-key-clause-made
returns-in_err-key-clause-made c =
    exit_made _ _ _ (err_from_is_err_and c.from_residual.result c.from_residual.ensures.1) (fault_refuses _ _ (first_fault _ _ _ c.in_err-key.ensures))

pub returns-in_err-key-clause-whole : goal.returns-in_err-key-clause-whole
returns-in_err-key-clause-whole c = whole_of _ (protecting_apart c.args.key.now c.args.password.now c.args.drawn.now) _ (returns-in_err-key-clause-made c)

pub returns-in_err-given-clause-made : goal.returns-in_err-given-clause-made
returns-in_err-given-clause-made c =
    exit_made _ _ _ (err_from_is_err_and c.from_residual-in_err-given.result c.from_residual-in_err-given.ensures.1)
    (fault_refuses _ _ (inr (second_fault _ _ _ c.in_ok-key.ensures.1 (rw (c.protecting_length.ensures, c.version.ensures, c.in_ok-key.ensures.0) at c.in_err-given.ensures))))

pub returns-in_err-given-clause-whole : goal.returns-in_err-given-clause-whole
returns-in_err-given-clause-whole c = whole_of _ (protecting_apart c.args.key.now c.args.password.now c.args.drawn.now) _ (returns-in_err-given-clause-made c)

pub returns-in_err-to_line-clause-made : goal.returns-in_err-to_line-clause-made
returns-in_err-to_line-clause-made c =
    let front = rw (c.protecting_length.ensures, c.version.ensures, c.in_ok-key.ensures.0) at c.in_ok-given.ensures in
    exit_made _ _ _ (err_from_is_err_and c.from_residual-in_err-to_line.result c.from_residual-in_err-to_line.ensures.1)
    (form_refuses _ _ _ (no_fault _ _ c.in_ok-key.ensures.1 front.2) _
    (elim (lineless _ _ (rw c.in_ok-key.ensures.0 at c.in_err-to_line.ensures.refused)) [ inl memory ↦ inl memory | inr none ↦ inr (inl none) ]))

pub returns-in_err-to_line-clause-whole : goal.returns-in_err-to_line-clause-whole
returns-in_err-to_line-clause-whole c = whole_of _ (protecting_apart c.args.key.now c.args.password.now c.args.drawn.now) _ (returns-in_err-to_line-clause-made c)

pub returns-in_err-protected-clause-made : goal.returns-in_err-protected-clause-made
returns-in_err-protected-clause-made c =
    let front = rw (c.protecting_length.ensures, c.version.ensures, c.in_ok-key.ensures.0) at c.in_ok-given.ensures in
    let line = rw c.in_ok-key.ensures.0 at c.in_ok-to_line.ensures.ok in
    exit_made _ _ _ (err_from_is_err_and c.from_residual-in_err-protected.result c.from_residual-in_err-protected.ensures.1)
    (form_refuses _ _ _ (no_fault _ _ c.in_ok-key.ensures.1 front.2) _
    (elim c.in_err-protected.ensures [ inl memory ↦ inl memory | inr long ↦ inr (inr ((_, line), long.1, long.0)) ]))

pub returns-in_err-protected-clause-whole : goal.returns-in_err-protected-clause-whole
returns-in_err-protected-clause-whole c = whole_of _ (protecting_apart c.args.key.now c.args.password.now c.args.drawn.now) _ (returns-in_err-protected-clause-made c)

pub returns-clause-made : goal.returns-clause-made
returns-clause-made c =
    let front = rw (c.protecting_length.ensures, c.version.ensures, c.in_ok-key.ensures.0) at c.in_ok-given.ensures in
    let line = rw c.in_ok-key.ensures.0 at c.in_ok-to_line.ensures.ok in
    let made = rw (c.in_ok-key.ensures.0, front.0) at c.in_ok-protected.ensures in
    form_makes _ _ _ (no_fault _ _ c.in_ok-key.ensures.1 front.2) _ ((_, line), made.0, made.1)
