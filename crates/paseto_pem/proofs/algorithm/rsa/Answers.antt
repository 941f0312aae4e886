use Rattle.paseto_pem.proofs.AlgorithmLaws.{rsa-octets}
use Rattle.paseto_pem.proofs.algorithm.rsa.Goals as goal

pub returns : goal.returns
returns c = rsa-octets
