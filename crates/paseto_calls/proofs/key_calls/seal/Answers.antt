use Rattle.std.proofs.Common.{inl, inr}
use Rattle.std.proofs.lemmas.Result.{err_from_is_err_and}
use Rattle.paseto_calls.proofs.FormWhole.{sealing_apart}
use Rattle.paseto_calls.proofs.KeyExits.{form_makes, form_refuses}
use Rattle.paseto_calls.proofs.Taken.{exit_made, fault_refuses, first_fault, no_fault, second_fault}
use Rattle.paseto_calls.proofs.Whole.{whole_of}
use Rattle.paseto_calls.proofs.key_calls.seal.Goals as goal

pub returns-in_err-key-clause-made : goal.returns-in_err-key-clause-made
returns-in_err-key-clause-made c =
    exit_made _ _ _ (err_from_is_err_and c.from_residual.result c.from_residual.ensures.1) (fault_refuses _ _ (first_fault _ _ _ c.in_err-key.ensures))

pub returns-in_err-key-clause-whole : goal.returns-in_err-key-clause-whole
returns-in_err-key-clause-whole c = whole_of _ (sealing_apart c.args.key.now c.args.other.now c.args.drawn.now) _ (returns-in_err-key-clause-made c)

pub returns-in_err-other-clause-made : goal.returns-in_err-other-clause-made
returns-in_err-other-clause-made c =
    exit_made _ _ _ (err_from_is_err_and c.from_residual-in_err-other.result c.from_residual-in_err-other.ensures.1)
    (fault_refuses _ _ (elim (first_fault _ _ _ c.in_err-other.ensures) [ inl memory ↦ inl memory | inr fault ↦ inr (second_fault _ _ _ c.in_ok-key.ensures.1 fault) ]))

pub returns-in_err-other-clause-whole : goal.returns-in_err-other-clause-whole
returns-in_err-other-clause-whole c = whole_of _ (sealing_apart c.args.key.now c.args.other.now c.args.drawn.now) _ (returns-in_err-other-clause-made c)

pub returns-in_err-ephemeral-clause-made : goal.returns-in_err-ephemeral-clause-made
returns-in_err-ephemeral-clause-made c =
    exit_made _ _ _ (err_from_is_err_and c.from_residual-in_err-ephemeral.result c.from_residual-in_err-ephemeral.ensures.1)
    (fault_refuses _ _ (inr (second_fault _ _ _ c.in_ok-key.ensures.1 (second_fault _ _ _ c.in_ok-other.ensures.1 (rw (c.sealing_length.ensures, c.version.ensures, c.in_ok-key.ensures.0) at c.in_err-ephemeral.ensures)))))

pub returns-in_err-ephemeral-clause-whole : goal.returns-in_err-ephemeral-clause-whole
returns-in_err-ephemeral-clause-whole c = whole_of _ (sealing_apart c.args.key.now c.args.other.now c.args.drawn.now) _ (returns-in_err-ephemeral-clause-made c)

pub returns-in_err-sealed-clause-made : goal.returns-in_err-sealed-clause-made
returns-in_err-sealed-clause-made c =
    let front = rw (c.sealing_length.ensures, c.version.ensures, c.in_ok-key.ensures.0) at c.in_ok-ephemeral.ensures in
    exit_made _ _ _ (err_from_is_err_and c.from_residual-in_err-sealed.result c.from_residual-in_err-sealed.ensures.1)
    (form_refuses _ _ _ (no_fault _ _ c.in_ok-key.ensures.1 (no_fault _ _ c.in_ok-other.ensures.1 front.2)) _
    (inr (rw (c.in_ok-key.ensures.0, c.in_ok-other.ensures.0, front.0) at c.in_err-sealed.ensures)))

pub returns-in_err-sealed-clause-whole : goal.returns-in_err-sealed-clause-whole
returns-in_err-sealed-clause-whole c = whole_of _ (sealing_apart c.args.key.now c.args.other.now c.args.drawn.now) _ (returns-in_err-sealed-clause-made c)

pub returns-clause-made : goal.returns-clause-made
returns-clause-made c =
    let front = rw (c.sealing_length.ensures, c.version.ensures, c.in_ok-key.ensures.0) at c.in_ok-ephemeral.ensures in
    form_makes _ _ _ (no_fault _ _ c.in_ok-key.ensures.1 (no_fault _ _ c.in_ok-other.ensures.1 front.2)) _ (rw (c.in_ok-key.ensures.0, c.in_ok-other.ensures.0, front.0) at c.in_ok-sealed.ensures)
