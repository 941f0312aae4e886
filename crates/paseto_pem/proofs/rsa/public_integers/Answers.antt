use Rattle.paseto_pem.proofs.RsaLaws.{public-first, public-found, public-second, public-sequence, public-third}
use Rattle.paseto_pem.proofs.rsa.public_integers.Goals as goal

pub returns-in_err-integers : goal.returns-in_err-integers
returns-in_err-integers c =
    rw c.from_residual.ensures (λ is. let s = public-sequence c.args.inner.now is in c.in_err-integers.ensures s.0 s.1)

pub returns-in_err-version : goal.returns-in_err-version
returns-in_err-version c =
    rw c.from_residual-in_err-version.ensures
    (λ is.
    let s = public-first c.args.inner.now c.in_ok-integers.integers.now is c.in_ok-integers.ensures in
    c.in_err-version.ensures s.0 s.1 s.2)

pub returns-in_err-modulus : goal.returns-in_err-modulus
returns-in_err-modulus c =
    rw c.from_residual-in_err-modulus.ensures
    (λ is.
    let v = c.in_ok-version.version in
    let s = public-second c.args.inner.now c.in_ok-integers.integers.now v.contents.now v.behind.now is c.in_ok-integers.ensures c.in_ok-version.ensures in
    c.in_err-modulus.ensures s.0 s.1 s.2)

pub returns-in_err-exponent : goal.returns-in_err-exponent
returns-in_err-exponent c =
    rw c.from_residual-in_err-exponent.ensures
    (λ is.
    let v = c.in_ok-version.version in
    let m = c.in_ok-modulus.modulus in
    let s = public-third c.args.inner.now c.in_ok-integers.integers.now v.contents.now v.behind.now m.contents.now m.behind.now is c.in_ok-integers.ensures
    c.in_ok-version.ensures c.in_ok-modulus.ensures in
    c.in_err-exponent.ensures s.0 s.1 s.2)

pub returns : goal.returns
returns c =
    let v = c.in_ok-version.version in
    let m = c.in_ok-modulus.modulus in
    let e = c.in_ok-exponent.exponent in
    public-found c.args.inner.now c.in_ok-integers.integers.now v.contents.now v.behind.now m.contents.now m.behind.now e.contents.now e.behind.now
    c.in_ok-integers.ensures c.in_ok-version.ensures c.in_ok-modulus.ensures c.in_ok-exponent.ensures
