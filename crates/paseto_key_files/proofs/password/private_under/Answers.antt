use Rattle.std.proofs.Common.{List, ℕ, IsTrue}
use Rattle.paseto_wrapping.specs.Keys.{IsWrappedForm}
use Rattle.paseto_wrapping.specs.declared.header.WrappedType.TheVariants.{SecretPassword}
use Rattle.paseto_key_files.specs.Line.{IsPrivateKey, private_line}
use Rattle.paseto_key_files.specs.Opening.{PasswordFaults, UnderPassword}
use Rattle.paseto_key_files.proofs.FormLaws.{form_key}
use Rattle.paseto_key_files.proofs.HeldLaws.{form_not_unwrapped, form_unwrapped}
use Rattle.paseto_key_files.proofs.password.private_under.Goals as goal

pub returns-in-Ok : goal.returns-in-Ok
returns-in-Ok g c =
    let version = g.V.KeyVersion.paserk in
    form_unwrapped (λ (octets key : List ℕ). IsWrappedForm version octets key × IsTrue (g.V.VersionTrait.is_private_key key)) (IsWrappedForm version)
    (IsPrivateKey version) (private_line version) (UnderPassword version SecretPassword c.args.password.now) (PasswordFaults version SecretPassword c.args.password.now) c.args.text.now
    (λ octets key h. (h, g.met.V.LineVersion.is_unwrapped octets key h)) (λ octets key h. h.0) (form_key version) c.in-Ok.key (rw c.bound.ensures at c.in-Ok.ensures)
    c.private_line.result c.private_line.ensures

pub returns-in-Err : goal.returns-in-Err
returns-in-Err g c =
    let version = g.V.KeyVersion.paserk in
    rw c.from.ensures (form_not_unwrapped (λ (octets key : List ℕ). IsWrappedForm version octets key × IsTrue (g.V.VersionTrait.is_private_key key)) (IsWrappedForm version)
    (IsPrivateKey version) (private_line version) (UnderPassword version SecretPassword c.args.password.now) (PasswordFaults version SecretPassword c.args.password.now) c.args.text.now
    (λ octets key h. (h, g.met.V.LineVersion.is_unwrapped octets key h)) (λ octets key h. h.0) (form_key version) c.in-Err.error (rw c.bound.ensures at c.in-Err.ensures))
