use Rattle.rusty_paseto_core.specs.Context.{Binding, bound}
use Rattle.rusty_paseto_core.specs.Public.Verifying.{verification}
use Rattle.rusty_paseto_core.proofs.Verified.{signed_carries, verification-lawful}
use Rattle.rusty_paseto_core.proofs.ReadingLaws.{answered, refused}
use Rattle.rusty_paseto_core.proofs.public.verifying.verify.Goals as goal

pub returns-in_err-payload : goal.returns-in_err-payload
returns-in_err-payload g c =
    let valid = g.S.SignatureScheme.valid in
    let refused_by = g.S.SignatureScheme.refused in
    let design = g.V.PublicSuite.public_design in
    let binding : Binding = bound c.args.public.now c.args.context.now in
    let law = verification-lawful valid refused_by design binding g.met.V.PublicSuite.public_lawful.is_header c.footer.ensures.bytes in
    refused (verification valid refused_by design binding) law _ _ c.args.token.now g.met.V.PublicSuite.public_lawful.has_version c.footer.ensures.text
    c.in_err-payload.field-0.0 c.from_residual.result c.from_residual.ensures.1 c.in_err-payload.ensures.fault (λ none. let e = c.in_err-payload.ensures.count none in cc)

pub returns : goal.returns
returns g c =
    let valid = g.S.SignatureScheme.valid in
    let refused_by = g.S.SignatureScheme.refused in
    let design = g.V.PublicSuite.public_design in
    let binding : Binding = bound c.args.public.now c.args.context.now in
    let law = verification-lawful valid refused_by design binding g.met.V.PublicSuite.public_lawful.is_header c.footer.ensures.bytes in
    answered (verification valid refused_by design binding) law _ _ c.args.token.now g.met.V.PublicSuite.public_lawful.has_version c.footer.ensures.text _
    c.in_ok-payload.ensures.framed c.verify_payload.result
    (λ bytes. signed_carries valid refused_by design binding _ bytes c.verify_payload.result c.verify_payload.ensures.holds)
    c.verify_payload.ensures.fault
