use Rattle.paseto_pem.proofs.PemKeyLaws.{curve-public-one, edwards-public-one, made-one, refused-one, rsa-public-one, unknown-public}
use Rattle.paseto_pem.proofs.pem_key.public_in.Goals as goal

pub returns-in_err-public_key_in-in-Ed25519 : goal.returns-in_err-public_key_in-in-Ed25519
returns-in_err-public_key_in-in-Ed25519 c =
    let kind = rw c.in-Ed25519.is at c.requires in
    let one = edwards-public-one c.args.label c.args.contents.now kind in
    refused-one one c.in_err-public_key_in-in-Ed25519.field-0.0 c.from_residual.result c.from_residual.ensures.1 c.in_err-public_key_in-in-Ed25519.ensures

pub returns-in_err-public_key_in-in-EllipticCurve : goal.returns-in_err-public_key_in-in-EllipticCurve
returns-in_err-public_key_in-in-EllipticCurve c =
    let kind = rw c.in-EllipticCurve.is at c.requires in
    let one = curve-public-one c.args.label c.args.contents.now kind in
    refused-one one c.in_err-public_key_in-in-EllipticCurve.field-0.0 c.from_residual-in_err-public_key_in-in-EllipticCurve.result c.from_residual-in_err-public_key_in-in-EllipticCurve.ensures.1 c.in_err-public_key_in-in-EllipticCurve.ensures

pub returns-in_err-public_key_in-in-Rsa : goal.returns-in_err-public_key_in-in-Rsa
returns-in_err-public_key_in-in-Rsa c =
    let kind = rw c.in-Rsa.is at c.requires in
    let one = rsa-public-one c.args.label c.args.contents.now kind in
    refused-one one c.in_err-public_key_in-in-Rsa.field-0.0 c.from_residual-in_err-public_key_in-in-Rsa.result c.from_residual-in_err-public_key_in-in-Rsa.ensures.1 c.in_err-public_key_in-in-Rsa.ensures

pub returns-in_ok-public_key_in-in-Ed25519 : goal.returns-in_ok-public_key_in-in-Ed25519
returns-in_ok-public_key_in-in-Ed25519 c =
    let kind = rw c.in-Ed25519.is at c.requires in
    let one = edwards-public-one c.args.label c.args.contents.now kind in
    made-one one c.in_ok-public_key_in-in-Ed25519.field-0 c.in_ok-public_key_in-in-Ed25519.ensures

pub returns-in_ok-public_key_in-in-EllipticCurve : goal.returns-in_ok-public_key_in-in-EllipticCurve
returns-in_ok-public_key_in-in-EllipticCurve c =
    let kind = rw c.in-EllipticCurve.is at c.requires in
    let one = curve-public-one c.args.label c.args.contents.now kind in
    made-one one c.in_ok-public_key_in-in-EllipticCurve.field-0 c.in_ok-public_key_in-in-EllipticCurve.ensures

pub returns-in_ok-public_key_in-in-Rsa : goal.returns-in_ok-public_key_in-in-Rsa
returns-in_ok-public_key_in-in-Rsa c =
    let kind = rw c.in-Rsa.is at c.requires in
    let one = rsa-public-one c.args.label c.args.contents.now kind in
    made-one one c.in_ok-public_key_in-in-Rsa.field-0 c.in_ok-public_key_in-in-Rsa.ensures

pub returns-in-Unknown : goal.returns-in-Unknown
returns-in-Unknown c = unknown-public c.args.label c.args.contents.now (rw c.in-Unknown.is at c.requires)
