use Rattle.std.proofs.Common.{ap}
use Rattle.std.proofs.lemmas.Result.{err_from_is_err_and}
use Rattle.rusty_paseto_paserk.specs.declared.header.PaserkType.TheVariants.{Public}
use Rattle.rusty_paseto_paserk.specs.declared.header.PaserkVersion.TheVariants.{V1, V2, V3, V4}
use Rattle.paseto_keys.specs.AnyKey.{key_parts}
use Rattle.paseto_keys.proofs.any_key.AnyKey.public_half.Goals as goal

pub returns-in_err-rsa_half-in-V1Secret : goal.returns-in_err-rsa_half-in-V1Secret
returns-in_err-rsa_half-in-V1Secret c =
    let p = err_from_is_err_and c.from_residual.result c.from_residual.ensures.1 in
    rw (c.in-V1Secret.is, p.1, p.2) (record { ok = tt; refused = c.in_err-rsa_half-in-V1Secret.ensures.err })

pub returns-in_ok-rsa_half-in-V1Secret : goal.returns-in_ok-rsa_half-in-V1Secret
returns-in_ok-rsa_half-in-V1Secret c =
    let half = c.in_ok-rsa_half-in-V1Secret.ensures.ok in
    rw c.in-V1Secret.is (record { ok = (half.0, half.1, ap (key_parts Public V1) half.2); refused = tt })

pub returns-in_err-ed25519_half-in-V2Secret : goal.returns-in_err-ed25519_half-in-V2Secret
returns-in_err-ed25519_half-in-V2Secret c =
    let p = err_from_is_err_and c.from_residual-in_err-ed25519_half-in-V2Secret.result c.from_residual-in_err-ed25519_half-in-V2Secret.ensures.1 in
    rw (c.in-V2Secret.is, p.1, p.2) (record { ok = tt; refused = c.in_err-ed25519_half-in-V2Secret.ensures.err })

pub returns-in_ok-ed25519_half-in-V2Secret : goal.returns-in_ok-ed25519_half-in-V2Secret
returns-in_ok-ed25519_half-in-V2Secret c =
    rw c.in-V2Secret.is (record { ok = (c.in_ok-ed25519_half-in-V2Secret.ensures.ok.0, ap (key_parts Public V2) c.in_ok-ed25519_half-in-V2Secret.ensures.ok.1); refused = tt })

pub returns-in_err-p384_half-in-V3Secret : goal.returns-in_err-p384_half-in-V3Secret
returns-in_err-p384_half-in-V3Secret c =
    let p = err_from_is_err_and c.from_residual-in_err-p384_half-in-V3Secret.result c.from_residual-in_err-p384_half-in-V3Secret.ensures.1 in
    rw (c.in-V3Secret.is, p.1, p.2) (record { ok = tt; refused = c.in_err-p384_half-in-V3Secret.ensures.err })

pub returns-in_ok-p384_half-in-V3Secret : goal.returns-in_ok-p384_half-in-V3Secret
returns-in_ok-p384_half-in-V3Secret c =
    rw c.in-V3Secret.is (record { ok = (c.in_ok-p384_half-in-V3Secret.ensures.ok.0, ap (key_parts Public V3) c.in_ok-p384_half-in-V3Secret.ensures.ok.1); refused = tt })

pub returns-in_err-ed25519_half-in-V4Secret : goal.returns-in_err-ed25519_half-in-V4Secret
returns-in_err-ed25519_half-in-V4Secret c =
    let p = err_from_is_err_and c.from_residual-in_err-ed25519_half-in-V4Secret.result c.from_residual-in_err-ed25519_half-in-V4Secret.ensures.1 in
    rw (c.in-V4Secret.is, p.1, p.2) (record { ok = tt; refused = c.in_err-ed25519_half-in-V4Secret.ensures.err })

pub returns-in_ok-ed25519_half-in-V4Secret : goal.returns-in_ok-ed25519_half-in-V4Secret
returns-in_ok-ed25519_half-in-V4Secret c =
    rw c.in-V4Secret.is (record { ok = (c.in_ok-ed25519_half-in-V4Secret.ensures.ok.0, ap (key_parts Public V4) c.in_ok-ed25519_half-in-V4Secret.ensures.ok.1); refused = tt })
