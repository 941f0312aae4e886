use Rattle.paseto_pem.proofs.P384Laws.{algorithm-octets}
use Rattle.paseto_pem.proofs.p384.algorithm.Goals as goal

pub returns : goal.returns
returns c = algorithm-octets
