use Rattle.std.proofs.Common.{sym, refl}
use Rattle.paseto_rsa.proofs.KeyLaws.{inner-found}
use Rattle.paseto_rsa.proofs.forms.private_key_to_pkcs1.Goals as goal

pub returns-in_err-inner : goal.returns-in_err-inner
returns-in_err-inner c =
    rw c.from_residual.ensures (λ key. c.in_err-inner.ensures key.read.inner key.read.written)

pub returns : goal.returns
returns c =
    let inner = c.in_ok-inner.inner.now in
    (c.if-not-is_private_key.ensures.0 refl, sym (inner-found inner c.args.key.now c.in_ok-inner.ensures))
