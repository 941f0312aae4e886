use Rattle.std.proofs.Common.{◌∙◌}
use Rattle.paseto_montgomery.specs.Words.{value}
use Rattle.paseto_weierstrass_laws.specs.Multiples.{multiple_of}
use Rattle.paseto_weierstrass_laws.proofs.MultipleLaws.{multiple-is_point}
use Rattle.paseto_p384.specs.Point.{coordinates}
use Rattle.paseto_p384.proofs.AgreementLaws.{same-x}
use Rattle.paseto_p384.proofs.agreement.agreed.Goals as goal

pub returns : goal.returns
returns c =
    let d = value c.args.d.now 6 in
    let q = coordinates c.args.q in
    c.x_of.ensures ∙ same-x (multiple_of d q) (coordinates c.multiply_secret.result) (multiple-is_point d q c.requires) c.multiply_secret.ensures.same
