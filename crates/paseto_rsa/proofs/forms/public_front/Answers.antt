use Rattle.paseto_rsa.proofs.FormLaws.{public-info-is}
use Rattle.paseto_rsa.proofs.forms.public_front.Goals as goal

pub returns : goal.returns
returns c = public-info-is
