use Rattle.std.proofs.Common.{inl, inr, refl, arith}
use Rattle.paseto_montgomery.proofs.DigitLaws.{weight-is}
use Rattle.paseto_rsa.proofs.reading.public_key.Goals as goal

pub returns-in_err-modulus : goal.returns-in_err-modulus
returns-in_err-modulus c =
    rw c.from_residual.ensures
    (λ r. elim c.in_err-modulus.ensures [
      | inl even ↦ omega (arith, even, r.odd)
      | inr short ↦ omega (arith, short, r.full, weight-is 32)
    ])

pub returns : goal.returns
returns c =
    let m = c.in_ok-modulus.modulus in
    let words = c.in_ok-modulus.ensures.0 in (
      record {
        full = omega (arith, c.in_ok-modulus.ensures.1, weight-is 32);
        below = omega (arith, c.in_ok-modulus.ensures.2, weight-is 32);
        odd = rw (← words) m.odd;
        exponent = c.if-exponent-ne-PUBLIC_EXPONENT.false;
      },
      words,
      refl,
    )
