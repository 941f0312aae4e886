use Rattle.paseto_pem.proofs.InfoLaws.{version-octets}
use Rattle.paseto_pem.proofs.info.version.Goals as goal

pub returns : goal.returns
returns c = version-octets
