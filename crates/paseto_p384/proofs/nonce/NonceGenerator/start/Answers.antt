use Rattle.paseto_p384.specs.Nonce.{started}
use Rattle.paseto_p384.proofs.nonce.NonceGenerator.start.Goals as goal

pub returns : goal.returns
unfolding started
returns c = cc
