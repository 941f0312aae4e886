use Rattle.paseto_pem.proofs.RsaLaws.{size-answer, size-none}
use Rattle.paseto_pem.proofs.rsa.other_size.Goals as goal

pub returns-in_err-version : goal.returns-in_err-version
returns-in_err-version c =
    rw c.from_residual-in_err-version.ensures (λ size h. size-none size c.in_ok-integers.integers.now c.args.inner.now c.in_ok-integers.ensures c.in_err-version.ensures h)

pub returns : goal.returns
returns c =
    size-answer c.other_modulus.result c.in_ok-version.version.contents.now c.in_ok-version.version.behind.now c.in_ok-integers.integers.now
    c.args.inner.now c.in_ok-integers.ensures c.in_ok-version.ensures c.other_modulus.ensures
