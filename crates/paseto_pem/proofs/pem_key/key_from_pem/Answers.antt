use Rattle.paseto_pem.proofs.PemKeyLaws.{read-any, refused-any}
use Rattle.paseto_pem.proofs.pem_key.key_from_pem.Goals as goal

pub returns-in_err-label : goal.returns-in_err-label
returns-in_err-label c =
    refused-any c.args.text.now c.in_err-label.field-0.0 c.from_residual.result c.from_residual.ensures.1 c.in_err-label.ensures

pub returns : goal.returns
returns c =
    read-any c.args.text.now c.in_ok-label.label c.in_ok-label.contents c.deref.result.now c.in_ok-label.ensures c.deref.ensures.value
    c.key_in.result c.key_in.ensures
