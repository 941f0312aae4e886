use Rattle.paseto_pem.proofs.AlgorithmLaws.{k1-octets}
use Rattle.paseto_pem.proofs.algorithm.secp256k1.Goals as goal

pub returns : goal.returns
returns c = k1-octets
