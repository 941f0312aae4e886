use Rattle.paseto_pem.specs.PemKey.{IsNoKind}
use Rattle.std.proofs.Common.{sym, subst}
use Rattle.paseto_pem.specs.declared.label.Label.{Label}
use Rattle.paseto_pem.proofs.PemKeyLaws.{refused-same}
use Rattle.paseto_pem.proofs.pem_key.key_in.Goals as goal

pub returns-in_err-private_kind-in-PrivateKey : goal.returns-in_err-private_kind-in-PrivateKey
returns-in_err-private_kind-in-PrivateKey c =
    let e = c.in_err-private_kind-in-PrivateKey in
    refused-same c.args.label c.args.contents.now e.field-0.0 c.from_residual.result c.from_residual.ensures.1
    (subst (λ (l : Label). IsNoKind l c.args.contents.now e.field-0.0) (sym c.in-PrivateKey.is) e.ensures.refused)
