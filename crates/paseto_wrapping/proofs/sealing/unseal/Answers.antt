use Rattle.std.proofs.Common.{◌≡◌, ℕ, List, length}
use Rattle.paseto_wrapping.specs.declared.header.WrappedType.TheVariants.{Seal}
use Rattle.paseto_wrapping.specs.Family.{family_of}
use Rattle.paseto_wrapping.specs.Sealing.{IsOpenFault, SealsFor}
use Rattle.paseto_wrapping.proofs.Reading.{key_refused, key_unwrapped}
use Rattle.paseto_wrapping.proofs.sealing.unseal.Goals as goal

pub returns-in_err-bytes : goal.returns-in_err-bytes
returns-in_err-bytes g c =
    let version = g.V.KeyVersion.paserk in
    let private = c.args.private.now in
    key_refused version Seal (SealsFor (family_of version) version private) (IsOpenFault (family_of version) version private)
    (λ (key : List ℕ). length key ≡ 32) c.args.text.now
    c.in_err-bytes.field-0.0 (rw (c.paserk_version.ensures, c.as_bytes.ensures.bytes) at c.in_err-bytes.ensures) c.from_residual.result c.from_residual.ensures.1

pub returns : goal.returns
returns g c =
    let version = g.V.KeyVersion.paserk in
    let private = c.args.private.now in
    key_unwrapped version Seal (SealsFor (family_of version) version private) (IsOpenFault (family_of version) version private)
    (λ (key : List ℕ). length key ≡ 32) c.args.text.now
    c.in_ok-bytes.bytes (rw (c.paserk_version.ensures, c.as_bytes.ensures.bytes) at c.in_ok-bytes.ensures) c.local_key.result c.local_key.ensures.ok c.local_key.ensures.err
