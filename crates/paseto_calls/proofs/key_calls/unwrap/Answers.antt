use Rattle.std.proofs.Common.{refl}
use Rattle.std.proofs.lemmas.Result.{err_from_is_err_and}
use Rattle.paseto_calls.proofs.KeyExits.{line_refuses, unwrapping_made}
use Rattle.paseto_calls.proofs.Taken.{fault_only, fault_refuses, text_only, text_refuses}
use Rattle.paseto_calls.specs.HeldKey.{named_by}
use Rattle.paseto_calls.proofs.OpenWhole.{line_only, opener_same}
use Rattle.paseto_calls.proofs.key_calls.unwrap.Goals as goal

pub returns-in_err-opener-clause-made : goal.returns-in_err-opener-clause-made
returns-in_err-opener-clause-made c =
    let p = err_from_is_err_and c.from_residual.result c.from_residual.ensures.1 in
    rw (p.1, p.2) (fault_refuses _ _ c.in_err-opener.ensures)

pub returns-in_err-opener-clause-whole : goal.returns-in_err-opener-clause-whole
returns-in_err-opener-clause-whole c = λ key makes.
    let p = err_from_is_err_and c.from_residual.result c.from_residual.ensures.1 in
    rw (p.1, p.2) (fault_only _ _ key c.in_err-opener.ensures makes)

pub returns-in_err-text-clause-made : goal.returns-in_err-text-clause-made
returns-in_err-text-clause-made c =
    let p = err_from_is_err_and c.from_residual-in_err-text.result c.from_residual-in_err-text.ensures.1 in
    rw (p.1, p.2) (text_refuses _ _ c.in_ok-opener.ensures.1 (c.in_err-text.ensures.0, λ texts. c.in_err-text.ensures.1 texts.0))

pub returns-in_err-text-clause-whole : goal.returns-in_err-text-clause-whole
returns-in_err-text-clause-whole c = λ key makes.
    let p = err_from_is_err_and c.from_residual-in_err-text.result c.from_residual-in_err-text.ensures.1 in
    rw (p.1, p.2) (text_only _ _ key (c.in_err-text.ensures.0, λ texts. c.in_err-text.ensures.1 texts.0) makes)

pub returns-in_err-line-clause-made : goal.returns-in_err-line-clause-made
returns-in_err-line-clause-made c =
    let p = err_from_is_err_and c.from_residual-in_err-line.result c.from_residual-in_err-line.ensures.1 in
    rw (p.1, p.2) (line_refuses c.args.text.now c.args.opener.now c.in_ok-opener.ensures.1 (c.in_ok-text.ensures.1, tt) _
    (rw c.in_ok-opener.ensures.0 at c.in_err-line.ensures.refused))

pub returns-in_err-line-clause-whole : goal.returns-in_err-line-clause-whole
returns-in_err-line-clause-whole c = λ key makes.
    let p = err_from_is_err_and c.from_residual-in_err-line.result c.from_residual-in_err-line.ensures.1 in
    rw (p.1, p.2) (line_only (named_by c.args.opener.now) _ makes.makes.0 makes.makes.1 (rw c.in_ok-opener.ensures.0 at c.in_err-line.ensures.refused))

pub returns-clause-made : goal.returns-clause-made
returns-clause-made c =
    unwrapping_made c.args.text.now c.args.opener.now c.in_ok-opener.ensures.1 (c.in_ok-text.ensures.1, tt) _
    (record { no_password = refl; is_key = rw c.as_str.ensures.value (rw c.in_ok-opener.ensures.0 at c.in_ok-line.ensures.ok) })
    c.opened.result (rw c.in_ok-text.ensures.0 at c.opened.ensures.made)

pub returns-clause-whole : goal.returns-clause-whole
returns-clause-whole c = λ key makes.
    let is = makes.makes in
    c.opened.ensures.whole key (rw c.in_ok-text.ensures.0 (opener_same (named_by c.args.opener.now) is.0 _ c.args.text.now key is.1
    (record { no_password = refl; is_key = rw c.as_str.ensures.value (rw c.in_ok-opener.ensures.0 at c.in_ok-line.ensures.ok) }) is.2)) is.3
