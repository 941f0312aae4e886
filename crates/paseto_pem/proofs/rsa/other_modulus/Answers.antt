use Rattle.std.proofs.Common.{arith, refl, ◌∙◌}
use Rattle.paseto_pem.proofs.RsaLaws.{one-modulus}
use Rattle.paseto_pem.proofs.rsa.other_modulus.Goals as goal

pub returns-in_err-size : goal.returns-in_err-size
returns-in_err-size c =
    rw c.from_residual-in_err-size.ensures
    (λ size h.
    let m = c.in_ok-modulus.modulus in
    let one = one-modulus size _ m.contents.now m.behind.now c.args.integers.now c.in_ok-modulus.ensures refl h in
    omega (arith, one.2, c.in_err-size.ensures))

pub returns-then-size-eq-MODULUS : goal.returns-then-size-eq-MODULUS
returns-then-size-eq-MODULUS c size h =
    let m = c.in_ok-modulus.modulus in
    let one = one-modulus size _ m.contents.now m.behind.now c.args.integers.now c.in_ok-modulus.ensures c.in_ok-size.ensures.1 h in
    one.1 (one.0 ∙ c.if-size-eq-MODULUS.true)
