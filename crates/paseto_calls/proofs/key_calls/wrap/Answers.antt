use Rattle.std.proofs.Common.{Err, inl, inr, refl}
use Rattle.std.proofs.lemmas.Result.{err_from_is_err_and}
use Rattle.paseto_calls.specs.declared.fault.Fault.TheVariants.{Refused}
use Rattle.paseto_calls.specs.declared.refusal.Refusal.TheVariants.{OtherVersion}
use Rattle.paseto_calls.proofs.FormWhole.{fails, holds, wrapping_apart}
use Rattle.paseto_calls.proofs.KeyExits.{form_makes, form_refuses, lineless}
use Rattle.paseto_calls.proofs.Taken.{exit_made, fault_refuses, first_fault, no_fault, second_fault}
use Rattle.paseto_calls.proofs.Whole.{whole_of}
use Rattle.paseto_calls.proofs.key_calls.wrap.Goals as goal

pub returns-in_err-key-clause-made : goal.returns-in_err-key-clause-made
returns-in_err-key-clause-made c =
    exit_made _ _ _ (err_from_is_err_and c.from_residual.result c.from_residual.ensures.1) (fault_refuses _ _ (first_fault _ _ _ c.in_err-key.ensures))

pub returns-in_err-key-clause-whole : goal.returns-in_err-key-clause-whole
returns-in_err-key-clause-whole c = whole_of _ (wrapping_apart c.args.key.now c.args.other.now c.args.drawn.now) _ (returns-in_err-key-clause-made c)

pub returns-in_err-other-clause-made : goal.returns-in_err-other-clause-made
returns-in_err-other-clause-made c =
    exit_made _ _ _ (err_from_is_err_and c.from_residual-in_err-other.result c.from_residual-in_err-other.ensures.1)
    (fault_refuses _ _ (elim (first_fault _ _ _ c.in_err-other.ensures) [ inl memory ↦ inl memory | inr fault ↦ inr (second_fault _ _ _ c.in_ok-key.ensures.1 fault) ]))

pub returns-in_err-other-clause-whole : goal.returns-in_err-other-clause-whole
returns-in_err-other-clause-whole c = whole_of _ (wrapping_apart c.args.key.now c.args.other.now c.args.drawn.now) _ (returns-in_err-other-clause-made c)

pub returns-in_err-nonce-clause-made : goal.returns-in_err-nonce-clause-made
returns-in_err-nonce-clause-made c =
    exit_made _ _ _ (err_from_is_err_and c.from_residual-in_err-nonce.result c.from_residual-in_err-nonce.ensures.1)
    (fault_refuses _ _ (inr (second_fault _ _ _ c.in_ok-key.ensures.1 (second_fault _ _ _ c.in_ok-other.ensures.1 c.in_err-nonce.ensures))))

pub returns-in_err-nonce-clause-whole : goal.returns-in_err-nonce-clause-whole
returns-in_err-nonce-clause-whole c = whole_of _ (wrapping_apart c.args.key.now c.args.other.now c.args.drawn.now) _ (returns-in_err-nonce-clause-made c)

pub returns-in_err-to_line-clause-made : goal.returns-in_err-to_line-clause-made
returns-in_err-to_line-clause-made c =
    exit_made _ _ _ (err_from_is_err_and c.from_residual-in_err-to_line.result c.from_residual-in_err-to_line.ensures.1)
    (form_refuses _ _ _ (no_fault _ _ c.in_ok-key.ensures.1 (no_fault _ _ c.in_ok-other.ensures.1 c.in_ok-nonce.ensures.2)) _
    (elim (lineless _ _ (rw c.in_ok-key.ensures.0 at c.in_err-to_line.ensures.refused)) [ inl memory ↦ inl memory | inr none ↦ inr (inl none) ]))

pub returns-in_err-to_line-clause-whole : goal.returns-in_err-to_line-clause-whole
returns-in_err-to_line-clause-whole c = whole_of _ (wrapping_apart c.args.key.now c.args.other.now c.args.drawn.now) _ (returns-in_err-to_line-clause-made c)

pub returns-in_err-wrapped-clause-made : goal.returns-in_err-wrapped-clause-made
returns-in_err-wrapped-clause-made c =
    exit_made _ _ _ (err_from_is_err_and c.from_residual-in_err-wrapped.result c.from_residual-in_err-wrapped.ensures.1) (form_refuses _ _ _ (no_fault _ _ c.in_ok-key.ensures.1 (no_fault _ _ c.in_ok-other.ensures.1 c.in_ok-nonce.ensures.2)) _ (inl c.in_err-wrapped.ensures))

pub returns-in_err-wrapped-clause-whole : goal.returns-in_err-wrapped-clause-whole
returns-in_err-wrapped-clause-whole c = whole_of _ (wrapping_apart c.args.key.now c.args.other.now c.args.drawn.now) _ (returns-in_err-wrapped-clause-made c)

pub returns-then-not-same_version-clause-made : goal.returns-then-not-same_version-clause-made
returns-then-not-same_version-clause-made c =
    let line = rw c.in_ok-key.ensures.0 at c.in_ok-to_line.ensures.ok in
    let other = rw (c.version.ensures, c.version-2.ensures, c.in_ok-key.ensures.0, c.in_ok-other.ensures.0) at c.same_version.ensures in
    form_refuses _ _ _ (no_fault _ _ c.in_ok-key.ensures.1 (no_fault _ _ c.in_ok-other.ensures.1 c.in_ok-nonce.ensures.2)) _ (inr (inr ((_, line), fails _ _ _ other c.if-not-same_version.true, refl)))

pub returns-then-not-same_version-clause-whole : goal.returns-then-not-same_version-clause-whole
returns-then-not-same_version-clause-whole c =
    whole_of _ (wrapping_apart c.args.key.now c.args.other.now c.args.drawn.now) (Err (Refused OtherVersion)) (returns-then-not-same_version-clause-made c)

pub returns-clause-made : goal.returns-clause-made
returns-clause-made c =
    let line = rw c.in_ok-key.ensures.0 at c.in_ok-to_line.ensures.ok in
    let same = rw (c.version.ensures, c.version-2.ensures, c.in_ok-key.ensures.0, c.in_ok-other.ensures.0) at c.same_version.ensures in
    let made = rw (c.in_ok-key.ensures.0, c.in_ok-other.ensures.0, c.in_ok-nonce.ensures.0) at c.in_ok-wrapped.ensures in
    form_makes _ _ _ (no_fault _ _ c.in_ok-key.ensures.1 (no_fault _ _ c.in_ok-other.ensures.1 c.in_ok-nonce.ensures.2)) _ ((_, line), holds _ _ _ same c.if-not-same_version.false, made)
