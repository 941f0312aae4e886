-- The words in which an identity of elements is written: variables, and equations that it follows from.
use Rattle.std.proofs.Common.{ℕ, zero, suc}
use Rattle.std.specs.Prelude.{Option, None}
use Rattle.paseto_primes.specs.Identity.{Equation}
use Rattle.paseto_primes.specs.Polynomial.{Expression, constant, variable}
use Rattle.paseto_primes.specs.Reduction.{Cube, Obey}

-- the first variables
abbrev pub v0 : Expression
v0 = variable 0

abbrev pub v1 : Expression
v1 = variable 1

abbrev pub v2 : Expression
v2 = variable 2

abbrev pub v3 : Expression
v3 = variable 3

abbrev pub v4 : Expression
v4 = variable 4

abbrev pub v5 : Expression
v5 = variable 5

abbrev pub v6 : Expression
v6 = variable 6

abbrev pub v7 : Expression
v7 = variable 7

abbrev pub v8 : Expression
v8 = variable 8

-- an equation, and what it is multiplied by
abbrev pub equation : Expression → Expression → Expression → Equation
equation factor left right = record { added = factor; taken = constant 0; left = left; right = right }

-- no cube is reduced
unfoldable pub no_rules : ℕ → Option Cube
no_rules n = None

pub obey-none : (n m : ℕ) (numbers : ℕ → ℕ) → Obey no_rules n m numbers
unfolding no_rules
obey-none zero m numbers = tt
obey-none (suc n) m numbers = (tt, obey-none n m numbers)
