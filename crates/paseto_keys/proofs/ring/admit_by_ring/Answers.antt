use Rattle.std.proofs.Common.{◌≡◌, Ok, Err, false, is_some, rules}
use Rattle.std.proofs.lemmas.Result.{err_from_is_err_and}
use Rattle.paseto_keys.specs.AnyKey.{takes_assertion}
use Rattle.paseto_keys.proofs.Rings.{claims}
use Rattle.paseto_keys.proofs.ring.admit_by_ring.Goals as goal

pub returns : goal.returns
returns g c =
    let bound : takes_assertion c.in-Ok.found.1 ≡ false → is_some c.expected_assertion-assertion.result ≡ false = search rules in
    let by_key = rw (c.expected_footer-footer.ensures, c.expected_assertion-assertion.ensures) at c.opened-text.ensures in
    claims _ _ _ _ _ c.in-Ok.ensures.ok.0 c.in-Ok.ensures.ok.1 (rw c.expected_assertion-assertion.ensures at bound)
    (cc (c.is_longer.ensures, c.if-is_longer.false, c.longest.ensures)) _ (Ok c.in_ok-claims_of.field-0) by_key c.in_ok-claims_of.ensures

pub returns-in_err-claims_of : goal.returns-in_err-claims_of
returns-in_err-claims_of g c =
    let bound : takes_assertion c.in-Ok.found.1 ≡ false → is_some c.expected_assertion-assertion.result ≡ false = search rules in
    let by_key = rw (c.expected_footer-footer.ensures, c.expected_assertion-assertion.ensures) at c.opened-text.ensures in
    let p = err_from_is_err_and c.from_residual.result c.from_residual.ensures.1 in
    rw (p.1, p.2) (claims _ _ _ _ _ c.in-Ok.ensures.ok.0 c.in-Ok.ensures.ok.1 (rw c.expected_assertion-assertion.ensures at bound)
    (cc (c.is_longer.ensures, c.if-is_longer.false, c.longest.ensures)) _ (Err c.in_err-claims_of.field-0.0) by_key c.in_err-claims_of.ensures)
