-- How an identity of elements of the field is written: the prover computes the normal form of the difference.
use Rattle.std.proofs.Common.{◌≡◌, ℕ, zero, suc, ◌-◌, List, true, lit<}
use Rattle.std.specs.Prelude.{Option, None}
use Rattle.paseto_primes.specs.Element.{HoldElements, element, minus as minus_modulo, plus as plus_modulo, times as times_modulo}
use Rattle.paseto_primes.specs.Identity.{Equation, is_null, left_sides, right_sides}
use Rattle.paseto_primes.specs.Polynomial.{Expression, constant, difference, polynomial, sum, variable}
use Rattle.paseto_primes.specs.Program.{listed}
use Rattle.paseto_primes.specs.Reduction.{Cube, Obey, reduced}
pub use Rattle.paseto_primes.proofs.Identities.{equation, no_rules, obey-none, v0, v1, v2, v3, v4, v5, v6}
use Rattle.paseto_primes.proofs.ElementLaws.{AreListedBelow, listed-below}
use Rattle.paseto_primes.proofs.ProgramLaws.{programming}
use Rattle.paseto_primes.proofs.ReductionLaws.{elements-by_rules}
use Rattle.paseto_weierstrass_laws.specs.Field.{minus, plus, prime, times, triple}

abbrev pub minus_one : Expression
minus_one = constant (prime - 1)

-- elements are equal by equations
pub identity : (n : ℕ) (xs : List ℕ) → AreListedBelow prime xs → (es : List Equation) → HoldElements n prime (listed xs) es → (a b : Expression)
    → is_null n prime (reduced no_rules n prime (polynomial n prime (difference (sum a (right_sides es)) (sum b (left_sides es))))) ≡ true
    → element n prime (listed xs) a ≡ element n prime (listed xs) b
identity n xs below es =
    elements-by_rules no_rules n prime (listed xs) (lit< tt) (listed-below prime xs (lit< tt) below) (obey-none n prime (listed xs)) es

-- all that an identity of elements computes with
unfoldable pub identifying : ℕ
unfolding programming no_rules plus minus times triple plus_modulo minus_modulo times_modulo
identifying = 0
