use Rattle.paseto_ed25519.proofs.SigningLaws.{signed-verifies}
use Rattle.paseto_ed25519.proofs.laws.signed_verifies.Goals as goal

pub returns : goal.returns
returns c =
    signed-verifies c.decoding.ensures c.encoding.ensures.length c.encoding.ensures.front c.encoding.ensures.back
    c.multiples_of_base.ensures c.number_of_bytes.ensures c.signature_sum.ensures c.small_multiples.ensures
