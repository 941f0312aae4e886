use Rattle.paseto_pem.proofs.AlgorithmLaws.{p521-octets}
use Rattle.paseto_pem.proofs.algorithm.secp521r1.Goals as goal

pub returns : goal.returns
returns c = p521-octets
