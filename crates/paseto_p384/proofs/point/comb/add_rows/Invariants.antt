use Rattle.std.proofs.Common.{ℕ, ◌+◌}
use Rattle.paseto_montgomery.specs.Words.{value}
use Rattle.paseto_primes.specs.Digits.{row_sum}
use Rattle.paseto_weierstrass_laws.specs.Multiples.{IsMultiple}
use Rattle.paseto_weierstrass_laws.specs.Point.{base}
use Rattle.paseto_p384.specs.Point.{coordinates}
use Rattle.paseto_p384.proofs.point.comb.add_rows.Given as goal

abbrev pub invariant-rows : goal.invariant-rows
invariant-rows l = (n : ℕ) → IsMultiple base (coordinates l.fn.p) n
    → IsMultiple base (coordinates l.sum) (n + row_sum (value l.k 6) l.fn.turn l.i)
