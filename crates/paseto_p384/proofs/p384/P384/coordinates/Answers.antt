use Rattle.std.proofs.Common.{Some, ap, ◌∙◌}
use Rattle.std.specs.Prelude.{option_map}
use Rattle.paseto_p384.specs.Encoding.{affine}
use Rattle.paseto_p384.proofs.p384.P384.coordinates.Goals as goal

pub returns-in-Some : goal.returns-in-Some
returns-in-Some c = ap (λ o. Some o) c.affine_octets.ensures ∙ ap (option_map affine) c.in-Some.ensures

pub returns-in-None : goal.returns-in-None
returns-in-None c = ap (option_map affine) c.in-None.ensures
