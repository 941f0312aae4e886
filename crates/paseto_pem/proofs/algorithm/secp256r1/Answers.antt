use Rattle.paseto_pem.proofs.AlgorithmLaws.{p256-octets}
use Rattle.paseto_pem.proofs.algorithm.secp256r1.Goals as goal

pub returns : goal.returns
returns c = p256-octets
