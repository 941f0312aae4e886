use Rattle.std.proofs.Common.{◌≡◌, ℕ, ◌+◌, ◌*◌, ◌^◌}
use Rattle.paseto_edwards_laws.specs.Edwards25519.{base}
use Rattle.paseto_edwards25519.specs.Curve.{multiple}
use Rattle.paseto_edwards25519.specs.Digits.{row_sum}
use Rattle.paseto_edwards25519.specs.Point.{point}
use Rattle.paseto_edwards25519.proofs.point.comb.add_rows.Given as goal

abbrev pub invariant-rows : goal.invariant-rows
invariant-rows l = (n : ℕ) → point l.fn.p ≡ multiple n base
    → point l.sum ≡ multiple (n + row_sum (l.fn.number.0 + 2 ^ 128 * l.fn.number.1) l.fn.turn l.i) base
