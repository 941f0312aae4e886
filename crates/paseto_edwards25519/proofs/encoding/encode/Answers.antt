use Rattle.std.proofs.Common.{◌∙◌, ap}
use Rattle.paseto_edwards25519.specs.Encoding.{encoded}
use Rattle.paseto_edwards25519.specs.Extended.{affine, flat}
use Rattle.paseto_edwards25519.specs.Field.{number, times}
use Rattle.paseto_edwards25519.specs.Scalar.{bytes32}
use Rattle.paseto_edwards25519.proofs.EncodingLaws.{encoded_number}
use Rattle.paseto_edwards25519.proofs.encoding.encode.Goals as goal

pub returns : goal.returns
unfolding encoded affine flat
returns c =
    let p = c.args.p in
    let inverse = c.inverse-z_inverse.ensures.value in
    let x = c.to_halves-x_low.ensures.value ∙ c.mul.ensures.value ∙ ap (times (number p.x)) inverse in
    let y = c.to_halves-low.ensures.value ∙ c.mul-2.ensures.value ∙ ap (times (number p.y)) inverse in
    c.bytes32.ensures ∙ ap bytes32 (encoded_number _ _ c.to_halves-x_low.result.0 c.to_halves-x_low.result.1 _ _ y x)
