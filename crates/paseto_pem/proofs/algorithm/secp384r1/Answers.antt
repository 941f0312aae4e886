use Rattle.paseto_pem.proofs.AlgorithmLaws.{p384-octets}
use Rattle.paseto_pem.proofs.algorithm.secp384r1.Goals as goal

pub returns : goal.returns
returns c = p384-octets
