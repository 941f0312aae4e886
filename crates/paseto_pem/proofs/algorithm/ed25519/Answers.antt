use Rattle.paseto_pem.proofs.AlgorithmLaws.{ed25519-octets}
use Rattle.paseto_pem.proofs.algorithm.ed25519.Goals as goal

pub returns : goal.returns
returns c = ed25519-octets
