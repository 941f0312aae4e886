use Rattle.paseto_pem.proofs.P384Laws.{version-octets}
use Rattle.paseto_pem.proofs.p384.version.Goals as goal

pub returns : goal.returns
returns c = version-octets
