use Rattle.paseto_p384.specs.Nonce.{drawn}
use Rattle.paseto_p384.proofs.nonce.NonceGenerator.draw.Goals as goal

pub returns : goal.returns
unfolding drawn
returns c = cc
