use Rattle.rusty_paseto.proofs.KeyRingParsing.{claims_within}
use Rattle.rusty_paseto.proofs.key_ring.boxed.Ring+PasetoSymmetricKey+V2+Local.parse_by.Goals as goal

pub returns : goal.returns
returns g c =
    claims_within _ _ _ _ _ _ c.open_bound-opened.result c.claims_of.result (rw (c.longest.ensures, c.expected_footer.ensures) at c.open_bound-opened.ensures) c.claims_of.ensures
