use Rattle.paseto_pem.proofs.AlgorithmLaws.{ec-octets}
use Rattle.paseto_pem.proofs.algorithm.ec_public_key.Goals as goal

pub returns : goal.returns
returns c = ec-octets
