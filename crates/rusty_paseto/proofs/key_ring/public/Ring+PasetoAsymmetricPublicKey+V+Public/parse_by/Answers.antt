use Rattle.rusty_paseto.proofs.KeyRingParsing.{bound_assertion, claims_within}
use Rattle.rusty_paseto.proofs.key_ring.public.Ring+PasetoAsymmetricPublicKey+V+Public.parse_by.Goals as goal

pub returns : goal.returns
returns g c =
    let own = rw c.expected_assertion.ensures at c.signed_assertion-assertion.ensures.bound in
    let assertion = bound_assertion _ _ c.signed_assertion-assertion.result own c.signed_assertion-assertion.ensures.none in
    claims_within _ _ _ _ _ _ c.verify_bound-opened.result c.claims_of.result (rw (c.longest.ensures, c.expected_footer.ensures, assertion) at c.verify_bound-opened.ensures) c.claims_of.ensures
