use Rattle.paseto_weierstrass_laws.proofs.FieldLaws.{fermat}
use Rattle.paseto_weierstrass_laws.proofs.curve.inverse_of_element.Goals as goal

pub returns : goal.returns
returns c = fermat
