use Rattle.std.proofs.Common.{◌∙◌, ap}
use Rattle.paseto_weierstrass_laws.specs.Multiples.{multiple_of}
use Rattle.paseto_weierstrass_laws.specs.Point.{base}
use Rattle.paseto_weierstrass_laws.proofs.MultipleLaws.{multiple-is_point}
use Rattle.paseto_weierstrass_laws.proofs.PointLaws.{base-is_point}
use Rattle.paseto_montgomery.specs.Words.{value}
use Rattle.paseto_p384.specs.Encoding.{encoded}
use Rattle.paseto_p384.specs.P384.{p384_public}
use Rattle.paseto_p384.specs.Point.{coordinates}
use Rattle.paseto_p384.proofs.EncodingLaws.{same-encoded}
use Rattle.paseto_p384.proofs.p384.public_octets.Goals as goal

pub returns : goal.returns
unfolding p384_public
returns c private h =
    let d = value c.args.d.now 6 in
    c.encode.ensures
    ∙ same-encoded (multiple_of d base) (coordinates c.multiply_base.result) (multiple-is_point d base base-is_point) c.multiply_base.ensures.same
    ∙ ap (λ n. encoded (multiple_of n base)) h
