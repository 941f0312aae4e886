use Rattle.paseto_pem.proofs.KeyLaws.{made-held, refused-held}
use Rattle.paseto_pem.proofs.keys.public_key_in.Goals as goal

pub returns-in_err-bytes : goal.returns-in_err-bytes
returns-in_err-bytes g c =
    refused-held g.V.PemVersion.is_public_of g.V.PemVersion.is_public_fault c.args.label c.args.contents.now c.in_err-bytes.field-0.0
    c.from_residual.result c.from_residual.ensures.1 c.in_err-bytes.ensures.read

pub returns-in-Ok : goal.returns-in-Ok
returns-in-Ok g c =
    made-held g.V.PemVersion.is_public_of g.V.PemVersion.is_public_fault c.args.label c.args.contents.now c.in_ok-bytes.bytes c.in-Ok.key
    c.in_ok-bytes.ensures.read c.in-Ok.ensures.same
