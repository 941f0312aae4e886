use Rattle.paseto_pem.proofs.KeyLaws.{read-key, refused-text}
use Rattle.paseto_pem.proofs.keys.public_key_from_pem.Goals as goal

pub returns-in_err-label : goal.returns-in_err-label
returns-in_err-label g c =
    refused-text g.V.PemVersion.is_public_of g.V.PemVersion.is_public_fault c.args.text.now c.in_err-label.field-0.0 c.from_residual.result
    c.from_residual.ensures.1 c.in_err-label.ensures

pub returns : goal.returns
returns g c =
    read-key g.V.PemVersion.is_public_of g.V.PemVersion.is_public_fault c.args.text.now c.in_ok-label.label c.in_ok-label.contents c.deref.result.now
    c.in_ok-label.ensures c.deref.ensures.value c.public_key_in.result c.public_key_in.ensures
