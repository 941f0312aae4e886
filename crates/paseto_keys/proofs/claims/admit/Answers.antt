use Rattle.std.proofs.Common.{Ok, Err}
use Rattle.std.proofs.lemmas.Result.{err_from_is_err_and}
use Rattle.paseto_keys.proofs.Admitting.{read, refused, too_long}
use Rattle.paseto_keys.proofs.Used.{used}
use Rattle.paseto_keys.proofs.claims.admit.Goals as goal

pub returns-then-is_longer : goal.returns-then-is_longer
returns-then-is_longer g c =
    let checked = rw (c.reads_tokens.ensures, c.key_type.ensures, c.expected_assertion-assertion.ensures) at c.in_ok-check_use.ensures in
    used _ _ checked (λ fits bound. too_long _ _ _ _ (cc (c.is_longer.ensures, c.if-is_longer.true, c.longest.ensures)))

pub returns-in_err-text : goal.returns-in_err-text
returns-in_err-text g c =
    let checked = rw (c.reads_tokens.ensures, c.key_type.ensures, c.expected_assertion-assertion.ensures) at c.in_ok-check_use.ensures in
    let token = rw (c.expected_footer-footer.ensures, c.expected_assertion-assertion.ensures) at c.in_err-text.ensures in
    let p = err_from_is_err_and c.from_residual-in_err-text.result c.from_residual-in_err-text.ensures.1 in
    rw (p.1, p.2) (used _ _ checked (λ fits bound.
    refused _ _ _ _ (cc (c.is_longer.ensures, c.if-is_longer.false, c.longest.ensures)) _ (token.answer fits bound)))

pub returns-in_err-value_of : goal.returns-in_err-value_of
returns-in_err-value_of g c =
    let checked = rw (c.reads_tokens.ensures, c.key_type.ensures, c.expected_assertion-assertion.ensures) at c.in_ok-check_use.ensures in
    let token = rw (c.expected_footer-footer.ensures, c.expected_assertion-assertion.ensures) at c.in_ok-text.ensures in
    let p = err_from_is_err_and c.from_residual-in_err-value_of.result c.from_residual-in_err-value_of.ensures.1 in
    rw (p.1, p.2) (used _ _ checked (λ fits bound.
    read _ _ _ _ (cc (c.is_longer.ensures, c.if-is_longer.false, c.longest.ensures)) _ (token.answer fits bound)
    (Err c.in_err-value_of.field-0.0) (rw c.as_str.ensures.value at c.in_err-value_of.ensures)))

pub returns : goal.returns
returns g c =
    let checked = rw (c.reads_tokens.ensures, c.key_type.ensures, c.expected_assertion-assertion.ensures) at c.in_ok-check_use.ensures in
    let token = rw (c.expected_footer-footer.ensures, c.expected_assertion-assertion.ensures) at c.in_ok-text.ensures in
    used _ _ checked (λ fits bound.
    read _ _ _ _ (cc (c.is_longer.ensures, c.if-is_longer.false, c.longest.ensures)) _ (token.answer fits bound)
    (Ok c.in_ok-value_of.field-0) (rw c.as_str.ensures.value at c.in_ok-value_of.ensures))
