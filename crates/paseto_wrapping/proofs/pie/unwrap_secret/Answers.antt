use Rattle.std.proofs.Common.{ℕ, List, IsTrue}
use Rattle.paseto_wrapping.specs.declared.header.WrappedType.TheVariants.{SecretWrap}
use Rattle.paseto_wrapping.specs.Keys.{IsWrappedForm}
use Rattle.paseto_wrapping.specs.Pie.{IsPie, IsPieFault}
use Rattle.paseto_wrapping.proofs.KeyLaws.{form_bytes, one_form}
use Rattle.paseto_wrapping.proofs.Reading.{form_refused, form_unwrapped}
use Rattle.paseto_wrapping.proofs.pie.unwrap_secret.Goals as goal

pub returns-in_err-bytes : goal.returns-in_err-bytes
returns-in_err-bytes g c =
    let version = g.V.KeyVersion.paserk in
    let wk = c.args.wrapping_key.now in
    form_refused version SecretWrap (IsPie version SecretWrap wk) (IsPieFault version SecretWrap wk)
    (λ (octets key : List ℕ). IsWrappedForm version octets key × IsTrue (g.V.VersionTrait.is_private_key key)) c.args.text.now
    c.in_err-bytes.field-0.0 (rw (c.paserk_version.ensures, c.as_bytes.ensures.bytes) at c.in_err-bytes.ensures) c.from_residual.result c.from_residual.ensures.1

pub returns : goal.returns
returns g c =
    let version = g.V.KeyVersion.paserk in
    let wk = c.args.wrapping_key.now in
    form_unwrapped version SecretWrap (IsPie version SecretWrap wk) (IsPieFault version SecretWrap wk)
    (λ (octets key : List ℕ). IsWrappedForm version octets key × IsTrue (g.V.VersionTrait.is_private_key key)) c.args.text.now
    c.in_ok-bytes.bytes (rw (c.paserk_version.ensures, c.as_bytes.ensures.bytes) at c.in_ok-bytes.ensures)
    (λ a b first second. one_form version c.in_ok-bytes.bytes.items a b first.0 second.0)
    (λ key bytes form. form_bytes version c.in_ok-bytes.bytes.items key bytes form.0)
    c.private_key.result c.private_key.ensures.ok c.private_key.ensures.err
