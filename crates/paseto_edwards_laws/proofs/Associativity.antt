-- The two ways to add three points of a twisted Edwards curve agree. Written by tools/identities.py.
use Rattle.std.proofs.Common.{◌≡◌, ℕ, ◌+◌, ◌*◌, ◌%◌, List, [], ◌∷◌, refl}
use Rattle.paseto_primes.specs.Identity.{Equation}
use Rattle.paseto_primes.specs.Polynomial.{Expression, constant, product, sum, variable}
use Rattle.paseto_primes.specs.Program.{listed}
use Rattle.paseto_primes.proofs.IdentityLaws.{by-equations, computing, term, total}
use Rattle.paseto_edwards_laws.specs.Group.{IsOn}

abbrev x′ : Expression
x′ = variable 0

abbrev y′ : Expression
y′ = variable 1

abbrev v′ : Expression
v′ = variable 2

abbrev w′ : Expression
w′ = variable 3

abbrev s′ : Expression
s′ = variable 4

abbrev t′ : Expression
t′ = variable 5

abbrev d′ : Expression
d′ = variable 6

abbrev q′ : Expression
q′ = variable 7

abbrev r′ : Expression
r′ = variable 8

equation_on_x : Expression → Expression → Equation
equation_on_x added taken =
    record { added = added; taken = taken; left = (product y′ y′); right = (sum (sum (constant 1) (product x′ x′)) (product d′ (product (product x′ x′) (product y′ y′)))) }

equation_on_v : Expression → Expression → Equation
equation_on_v added taken =
    record { added = added; taken = taken; left = (product w′ w′); right = (sum (sum (constant 1) (product v′ v′)) (product d′ (product (product v′ v′) (product w′ w′)))) }

equation_on_s : Expression → Expression → Equation
equation_on_s added taken =
    record { added = added; taken = taken; left = (product t′ t′); right = (sum (sum (constant 1) (product s′ s′)) (product d′ (product (product s′ s′) (product t′ t′)))) }

equation_at_q : Expression → Expression → Equation
equation_at_q added taken =
    record { added = added; taken = taken; left = (sum q′ (product d′ (product (product x′ v′) (product y′ w′)))); right = (constant 1) }

equation_at_r : Expression → Expression → Equation
equation_at_r added taken =
    record { added = added; taken = taken; left = (sum r′ (product d′ (product (product v′ s′) (product w′ t′)))); right = (constant 1) }

first_on_x_added : Expression
first_on_x_added =
    total
    (term 1 (0 ∷ 2 ∷ 2 ∷ 3 ∷ 3 ∷ 3 ∷ 5 ∷ 5 ∷ 5 ∷ 6 ∷ []) ∷ term 1 (0 ∷ 2 ∷ 3 ∷ 3 ∷ 3 ∷ 3 ∷ 4 ∷ 5 ∷ 5 ∷ 6 ∷ []) ∷
    term 1 (1 ∷ 2 ∷ 2 ∷ 2 ∷ 2 ∷ 3 ∷ 3 ∷ 3 ∷ 4 ∷ 5 ∷ 5 ∷ 6 ∷ 6 ∷ []) ∷
    term 1 (1 ∷ 2 ∷ 2 ∷ 2 ∷ 2 ∷ 3 ∷ 4 ∷ 5 ∷ 5 ∷ 6 ∷ []) ∷
    term 1 (1 ∷ 2 ∷ 2 ∷ 2 ∷ 3 ∷ 3 ∷ 3 ∷ 3 ∷ 4 ∷ 4 ∷ 5 ∷ 6 ∷ 6 ∷ []) ∷
    term 1 (1 ∷ 2 ∷ 2 ∷ 2 ∷ 3 ∷ 3 ∷ 5 ∷ 5 ∷ 5 ∷ 6 ∷ []) ∷ [])

first_on_x_taken : Expression
first_on_x_taken =
    total
    (term 1 (0 ∷ 2 ∷ 2 ∷ 2 ∷ 2 ∷ 3 ∷ 3 ∷ 3 ∷ 4 ∷ 4 ∷ 5 ∷ 6 ∷ 6 ∷ []) ∷
    term 1 (0 ∷ 2 ∷ 2 ∷ 2 ∷ 2 ∷ 3 ∷ 4 ∷ 4 ∷ 5 ∷ 6 ∷ []) ∷
    term 1 (0 ∷ 2 ∷ 2 ∷ 2 ∷ 3 ∷ 3 ∷ 3 ∷ 3 ∷ 4 ∷ 5 ∷ 5 ∷ 6 ∷ 6 ∷ []) ∷
    term 1 (0 ∷ 2 ∷ 2 ∷ 2 ∷ 3 ∷ 3 ∷ 4 ∷ 4 ∷ 4 ∷ 6 ∷ []) ∷ term 1 (0 ∷ 2 ∷ 2 ∷ 2 ∷ 3 ∷ 3 ∷ 4 ∷ 6 ∷ []) ∷
    term 1 (0 ∷ 2 ∷ 2 ∷ 3 ∷ 3 ∷ 3 ∷ 5 ∷ 6 ∷ []) ∷ term 1 (1 ∷ 2 ∷ 2 ∷ 2 ∷ 3 ∷ 3 ∷ 5 ∷ 6 ∷ []) ∷
    term 1 (1 ∷ 2 ∷ 2 ∷ 3 ∷ 3 ∷ 3 ∷ 4 ∷ 4 ∷ 4 ∷ 6 ∷ []) ∷ term 1 (1 ∷ 2 ∷ 2 ∷ 3 ∷ 3 ∷ 3 ∷ 4 ∷ 6 ∷ []) ∷
    term 1 (1 ∷ 2 ∷ 3 ∷ 3 ∷ 3 ∷ 3 ∷ 4 ∷ 4 ∷ 5 ∷ 6 ∷ []) ∷ [])

first_on_v_added : Expression
first_on_v_added =
    total
    (term 1 (0 ∷ 0 ∷ 0 ∷ 2 ∷ 2 ∷ 3 ∷ 4 ∷ 4 ∷ 5 ∷ 6 ∷ []) ∷ term 1 (0 ∷ 0 ∷ 0 ∷ 2 ∷ 3 ∷ 3 ∷ 4 ∷ 5 ∷ 5 ∷ 6 ∷ []) ∷
    term 1 (0 ∷ 0 ∷ 0 ∷ 2 ∷ 4 ∷ []) ∷ term 1 (0 ∷ 0 ∷ 0 ∷ 2 ∷ 4 ∷ 4 ∷ 4 ∷ []) ∷
    term 1 (0 ∷ 0 ∷ 0 ∷ 2 ∷ 4 ∷ 4 ∷ 4 ∷ 5 ∷ 5 ∷ 6 ∷ []) ∷ term 1 (0 ∷ 0 ∷ 0 ∷ 3 ∷ 4 ∷ 4 ∷ 5 ∷ []) ∷
    term 1 (0 ∷ 0 ∷ 0 ∷ 3 ∷ 4 ∷ 4 ∷ 5 ∷ 5 ∷ 5 ∷ 6 ∷ []) ∷ term 1 (0 ∷ 0 ∷ 0 ∷ 3 ∷ 5 ∷ []) ∷
    term 1 (0 ∷ 0 ∷ 1 ∷ 2 ∷ 2 ∷ 3 ∷ 4 ∷ 4 ∷ 4 ∷ 5 ∷ 5 ∷ 6 ∷ 6 ∷ []) ∷ term 1 (0 ∷ 0 ∷ 1 ∷ 2 ∷ 4 ∷ 4 ∷ 5 ∷ []) ∷
    term 1 (0 ∷ 0 ∷ 1 ∷ 2 ∷ 4 ∷ 4 ∷ 5 ∷ 5 ∷ 5 ∷ 6 ∷ []) ∷ term 1 (0 ∷ 0 ∷ 1 ∷ 2 ∷ 5 ∷ []) ∷
    term 1 (0 ∷ 0 ∷ 1 ∷ 3 ∷ 4 ∷ []) ∷ term 1 (0 ∷ 0 ∷ 1 ∷ 3 ∷ 4 ∷ 4 ∷ 4 ∷ []) ∷
    term 1 (0 ∷ 0 ∷ 1 ∷ 3 ∷ 4 ∷ 4 ∷ 4 ∷ 5 ∷ 5 ∷ 6 ∷ []) ∷
    term 1 (0 ∷ 1 ∷ 1 ∷ 2 ∷ 3 ∷ 3 ∷ 4 ∷ 4 ∷ 4 ∷ 5 ∷ 5 ∷ 6 ∷ 6 ∷ []) ∷ term 1 (0 ∷ 1 ∷ 1 ∷ 2 ∷ 4 ∷ 5 ∷ 5 ∷ []) ∷
    term 1 (0 ∷ 1 ∷ 1 ∷ 3 ∷ 5 ∷ 5 ∷ 5 ∷ []) ∷ term 1 (0 ∷ 2 ∷ 2 ∷ 3 ∷ 4 ∷ 4 ∷ 5 ∷ 6 ∷ []) ∷
    term 1 (0 ∷ 2 ∷ 3 ∷ 3 ∷ 4 ∷ 5 ∷ 5 ∷ 6 ∷ []) ∷ term 1 (0 ∷ 2 ∷ 4 ∷ []) ∷ term 1 (0 ∷ 2 ∷ 4 ∷ 4 ∷ 4 ∷ []) ∷
    term 1 (0 ∷ 2 ∷ 4 ∷ 4 ∷ 4 ∷ 5 ∷ 5 ∷ 6 ∷ []) ∷ term 1 (0 ∷ 3 ∷ 4 ∷ 4 ∷ 5 ∷ []) ∷
    term 1 (0 ∷ 3 ∷ 4 ∷ 4 ∷ 5 ∷ 5 ∷ 5 ∷ 6 ∷ []) ∷ term 1 (0 ∷ 3 ∷ 5 ∷ []) ∷
    term 1 (1 ∷ 1 ∷ 1 ∷ 2 ∷ 2 ∷ 3 ∷ 4 ∷ 5 ∷ 5 ∷ 6 ∷ []) ∷ term 1 (1 ∷ 1 ∷ 1 ∷ 2 ∷ 3 ∷ 3 ∷ 4 ∷ 4 ∷ 5 ∷ 6 ∷ []) ∷
    term 1 (1 ∷ 1 ∷ 1 ∷ 2 ∷ 5 ∷ 5 ∷ 5 ∷ []) ∷ term 1 (1 ∷ 1 ∷ 1 ∷ 3 ∷ 4 ∷ 5 ∷ 5 ∷ []) ∷
    term 1 (1 ∷ 2 ∷ 4 ∷ 4 ∷ 5 ∷ []) ∷ term 1 (1 ∷ 2 ∷ 4 ∷ 4 ∷ 5 ∷ 5 ∷ 5 ∷ 6 ∷ []) ∷ term 1 (1 ∷ 2 ∷ 5 ∷ []) ∷
    term 1 (1 ∷ 3 ∷ 4 ∷ []) ∷ term 1 (1 ∷ 3 ∷ 4 ∷ 4 ∷ 4 ∷ []) ∷ term 1 (1 ∷ 3 ∷ 4 ∷ 4 ∷ 4 ∷ 5 ∷ 5 ∷ 6 ∷ []) ∷ [])

first_on_v_taken : Expression
first_on_v_taken =
    total
    (term 1 (0 ∷ 0 ∷ 0 ∷ 2 ∷ 4 ∷ 5 ∷ 5 ∷ []) ∷ term 1 (0 ∷ 0 ∷ 0 ∷ 3 ∷ 5 ∷ 5 ∷ 5 ∷ []) ∷
    term 1 (0 ∷ 0 ∷ 1 ∷ 2 ∷ 2 ∷ 3 ∷ 4 ∷ 5 ∷ 5 ∷ 6 ∷ []) ∷
    term 1 (0 ∷ 0 ∷ 1 ∷ 2 ∷ 3 ∷ 3 ∷ 4 ∷ 4 ∷ 5 ∷ 5 ∷ 5 ∷ 6 ∷ 6 ∷ []) ∷
    term 1 (0 ∷ 0 ∷ 1 ∷ 2 ∷ 3 ∷ 3 ∷ 4 ∷ 4 ∷ 5 ∷ 6 ∷ []) ∷ term 1 (0 ∷ 0 ∷ 1 ∷ 2 ∷ 5 ∷ 5 ∷ 5 ∷ []) ∷
    term 1 (0 ∷ 0 ∷ 1 ∷ 3 ∷ 4 ∷ 5 ∷ 5 ∷ []) ∷ term 1 (0 ∷ 1 ∷ 1 ∷ 2 ∷ 2 ∷ 3 ∷ 4 ∷ 4 ∷ 5 ∷ 5 ∷ 5 ∷ 6 ∷ 6 ∷ []) ∷
    term 1 (0 ∷ 1 ∷ 1 ∷ 2 ∷ 2 ∷ 3 ∷ 4 ∷ 4 ∷ 5 ∷ 6 ∷ []) ∷ term 1 (0 ∷ 1 ∷ 1 ∷ 2 ∷ 3 ∷ 3 ∷ 4 ∷ 5 ∷ 5 ∷ 6 ∷ []) ∷
    term 1 (0 ∷ 1 ∷ 1 ∷ 2 ∷ 4 ∷ []) ∷ term 1 (0 ∷ 1 ∷ 1 ∷ 2 ∷ 4 ∷ 4 ∷ 4 ∷ []) ∷
    term 1 (0 ∷ 1 ∷ 1 ∷ 2 ∷ 4 ∷ 4 ∷ 4 ∷ 5 ∷ 5 ∷ 6 ∷ []) ∷ term 1 (0 ∷ 1 ∷ 1 ∷ 3 ∷ 4 ∷ 4 ∷ 5 ∷ []) ∷
    term 1 (0 ∷ 1 ∷ 1 ∷ 3 ∷ 4 ∷ 4 ∷ 5 ∷ 5 ∷ 5 ∷ 6 ∷ []) ∷ term 1 (0 ∷ 1 ∷ 1 ∷ 3 ∷ 5 ∷ []) ∷
    term 1 (0 ∷ 2 ∷ 4 ∷ 5 ∷ 5 ∷ []) ∷ term 1 (0 ∷ 3 ∷ 5 ∷ 5 ∷ 5 ∷ []) ∷ term 1 (1 ∷ 1 ∷ 1 ∷ 2 ∷ 4 ∷ 4 ∷ 5 ∷ []) ∷
    term 1 (1 ∷ 1 ∷ 1 ∷ 2 ∷ 4 ∷ 4 ∷ 5 ∷ 5 ∷ 5 ∷ 6 ∷ []) ∷ term 1 (1 ∷ 1 ∷ 1 ∷ 2 ∷ 5 ∷ []) ∷
    term 1 (1 ∷ 1 ∷ 1 ∷ 3 ∷ 4 ∷ []) ∷ term 1 (1 ∷ 1 ∷ 1 ∷ 3 ∷ 4 ∷ 4 ∷ 4 ∷ []) ∷
    term 1 (1 ∷ 1 ∷ 1 ∷ 3 ∷ 4 ∷ 4 ∷ 4 ∷ 5 ∷ 5 ∷ 6 ∷ []) ∷ term 1 (1 ∷ 2 ∷ 2 ∷ 3 ∷ 4 ∷ 5 ∷ 5 ∷ 6 ∷ []) ∷
    term 1 (1 ∷ 2 ∷ 3 ∷ 3 ∷ 4 ∷ 4 ∷ 5 ∷ 6 ∷ []) ∷ term 1 (1 ∷ 2 ∷ 5 ∷ 5 ∷ 5 ∷ []) ∷
    term 1 (1 ∷ 3 ∷ 4 ∷ 5 ∷ 5 ∷ []) ∷ [])

first_on_s_added : Expression
first_on_s_added =
    total
    (term 1 (0 ∷ 0 ∷ 0 ∷ 2 ∷ 3 ∷ 3 ∷ 4 ∷ []) ∷ term 1 (0 ∷ 0 ∷ 0 ∷ 3 ∷ 3 ∷ 3 ∷ 5 ∷ []) ∷
    term 1 (0 ∷ 0 ∷ 1 ∷ 2 ∷ 3 ∷ 3 ∷ 5 ∷ []) ∷ term 1 (0 ∷ 0 ∷ 1 ∷ 2 ∷ 3 ∷ 3 ∷ 5 ∷ 6 ∷ []) ∷
    term 1 (0 ∷ 0 ∷ 1 ∷ 3 ∷ 3 ∷ 3 ∷ 4 ∷ []) ∷ term 1 (0 ∷ 1 ∷ 1 ∷ 2 ∷ 2 ∷ 2 ∷ 4 ∷ []) ∷
    term 1 (0 ∷ 1 ∷ 1 ∷ 2 ∷ 2 ∷ 3 ∷ 5 ∷ []) ∷ term 1 (0 ∷ 1 ∷ 1 ∷ 2 ∷ 2 ∷ 3 ∷ 5 ∷ 6 ∷ []) ∷
    term 1 (0 ∷ 1 ∷ 1 ∷ 2 ∷ 4 ∷ []) ∷ term 1 (0 ∷ 1 ∷ 1 ∷ 3 ∷ 5 ∷ []) ∷ term 1 (0 ∷ 2 ∷ 3 ∷ 3 ∷ 4 ∷ []) ∷
    term 1 (0 ∷ 3 ∷ 3 ∷ 3 ∷ 5 ∷ []) ∷ term 1 (1 ∷ 1 ∷ 1 ∷ 2 ∷ 2 ∷ 2 ∷ 5 ∷ []) ∷
    term 1 (1 ∷ 1 ∷ 1 ∷ 2 ∷ 2 ∷ 3 ∷ 4 ∷ []) ∷ term 1 (1 ∷ 1 ∷ 1 ∷ 2 ∷ 5 ∷ []) ∷ term 1 (1 ∷ 1 ∷ 1 ∷ 3 ∷ 4 ∷ []) ∷
    term 1 (1 ∷ 2 ∷ 3 ∷ 3 ∷ 5 ∷ []) ∷ term 1 (1 ∷ 3 ∷ 3 ∷ 3 ∷ 4 ∷ []) ∷ [])

first_on_s_taken : Expression
first_on_s_taken =
    total
    (term 1 (0 ∷ 0 ∷ 0 ∷ 2 ∷ 2 ∷ 2 ∷ 4 ∷ []) ∷ term 1 (0 ∷ 0 ∷ 0 ∷ 2 ∷ 2 ∷ 3 ∷ 5 ∷ []) ∷
    term 1 (0 ∷ 0 ∷ 0 ∷ 2 ∷ 4 ∷ []) ∷ term 1 (0 ∷ 0 ∷ 0 ∷ 3 ∷ 5 ∷ []) ∷ term 1 (0 ∷ 0 ∷ 1 ∷ 2 ∷ 2 ∷ 2 ∷ 5 ∷ []) ∷
    term 1 (0 ∷ 0 ∷ 1 ∷ 2 ∷ 2 ∷ 3 ∷ 4 ∷ []) ∷ term 1 (0 ∷ 0 ∷ 1 ∷ 2 ∷ 2 ∷ 3 ∷ 4 ∷ 6 ∷ []) ∷
    term 1 (0 ∷ 0 ∷ 1 ∷ 2 ∷ 5 ∷ []) ∷ term 1 (0 ∷ 0 ∷ 1 ∷ 3 ∷ 4 ∷ []) ∷ term 1 (0 ∷ 1 ∷ 1 ∷ 2 ∷ 3 ∷ 3 ∷ 4 ∷ []) ∷
    term 1 (0 ∷ 1 ∷ 1 ∷ 2 ∷ 3 ∷ 3 ∷ 4 ∷ 6 ∷ []) ∷ term 1 (0 ∷ 1 ∷ 1 ∷ 3 ∷ 3 ∷ 3 ∷ 5 ∷ []) ∷
    term 1 (0 ∷ 2 ∷ 2 ∷ 2 ∷ 4 ∷ []) ∷ term 1 (0 ∷ 2 ∷ 2 ∷ 3 ∷ 5 ∷ []) ∷ term 1 (0 ∷ 2 ∷ 4 ∷ []) ∷
    term 1 (0 ∷ 3 ∷ 5 ∷ []) ∷ term 1 (1 ∷ 1 ∷ 1 ∷ 2 ∷ 3 ∷ 3 ∷ 5 ∷ []) ∷ term 1 (1 ∷ 1 ∷ 1 ∷ 3 ∷ 3 ∷ 3 ∷ 4 ∷ []) ∷
    term 1 (1 ∷ 2 ∷ 2 ∷ 2 ∷ 5 ∷ []) ∷ term 1 (1 ∷ 2 ∷ 2 ∷ 3 ∷ 4 ∷ []) ∷ term 1 (1 ∷ 2 ∷ 5 ∷ []) ∷
    term 1 (1 ∷ 3 ∷ 4 ∷ []) ∷ [])

first_at_q_added : Expression
first_at_q_added =
    total
    (term 1 (0 ∷ 0 ∷ 1 ∷ 2 ∷ 2 ∷ 3 ∷ 4 ∷ 5 ∷ 5 ∷ 6 ∷ []) ∷ term 1 (0 ∷ 0 ∷ 1 ∷ 2 ∷ 3 ∷ 3 ∷ 4 ∷ 4 ∷ 5 ∷ 6 ∷ []) ∷
    term 1 (0 ∷ 0 ∷ 1 ∷ 2 ∷ 3 ∷ 3 ∷ 5 ∷ 5 ∷ 5 ∷ 6 ∷ []) ∷ term 1 (0 ∷ 0 ∷ 1 ∷ 3 ∷ 3 ∷ 3 ∷ 4 ∷ 5 ∷ 5 ∷ 6 ∷ []) ∷
    term 1 (0 ∷ 1 ∷ 1 ∷ 2 ∷ 2 ∷ 2 ∷ 4 ∷ 5 ∷ 5 ∷ 6 ∷ []) ∷ term 1 (0 ∷ 1 ∷ 1 ∷ 2 ∷ 2 ∷ 3 ∷ 4 ∷ 4 ∷ 5 ∷ 6 ∷ []) ∷
    term 1 (0 ∷ 1 ∷ 1 ∷ 2 ∷ 2 ∷ 3 ∷ 5 ∷ 5 ∷ 5 ∷ 6 ∷ []) ∷ term 1 (0 ∷ 1 ∷ 1 ∷ 2 ∷ 3 ∷ 3 ∷ 4 ∷ 5 ∷ 5 ∷ 6 ∷ []) ∷
    term 1 (0 ∷ 2 ∷ 3 ∷ 3 ∷ 4 ∷ 5 ∷ 5 ∷ 6 ∷ 8 ∷ []) ∷ term 1 (0 ∷ 3 ∷ 5 ∷ 8 ∷ []) ∷
    term 1 (1 ∷ 2 ∷ 2 ∷ 3 ∷ 4 ∷ 5 ∷ 5 ∷ 6 ∷ 8 ∷ []) ∷ [])

first_at_q_taken : Expression
first_at_q_taken =
    total
    (term 1 (0 ∷ 0 ∷ 1 ∷ 2 ∷ 2 ∷ 2 ∷ 3 ∷ 3 ∷ 4 ∷ 4 ∷ 5 ∷ 6 ∷ 6 ∷ []) ∷
    term 1 (0 ∷ 0 ∷ 1 ∷ 2 ∷ 2 ∷ 3 ∷ 3 ∷ 3 ∷ 4 ∷ 5 ∷ 5 ∷ 6 ∷ 6 ∷ []) ∷
    term 1 (0 ∷ 0 ∷ 1 ∷ 2 ∷ 2 ∷ 3 ∷ 4 ∷ 6 ∷ []) ∷ term 1 (0 ∷ 0 ∷ 1 ∷ 2 ∷ 3 ∷ 3 ∷ 5 ∷ 6 ∷ []) ∷
    term 1 (0 ∷ 1 ∷ 1 ∷ 2 ∷ 2 ∷ 3 ∷ 5 ∷ 6 ∷ 8 ∷ []) ∷ term 1 (0 ∷ 1 ∷ 1 ∷ 2 ∷ 3 ∷ 3 ∷ 4 ∷ 6 ∷ 8 ∷ []) ∷
    term 1 (0 ∷ 2 ∷ 2 ∷ 3 ∷ 4 ∷ 4 ∷ 5 ∷ 6 ∷ []) ∷ term 1 (0 ∷ 2 ∷ 3 ∷ 3 ∷ 4 ∷ 5 ∷ 5 ∷ 6 ∷ []) ∷
    term 1 (0 ∷ 2 ∷ 4 ∷ []) ∷ term 1 (0 ∷ 3 ∷ 5 ∷ []) ∷ term 1 (1 ∷ 3 ∷ 4 ∷ 8 ∷ []) ∷ [])

first_at_r_added : Expression
first_at_r_added =
    total
    (term 1 (0 ∷ 0 ∷ 1 ∷ 1 ∷ 1 ∷ 2 ∷ 2 ∷ 2 ∷ 3 ∷ 3 ∷ 5 ∷ 6 ∷ 6 ∷ []) ∷
    term 1 (0 ∷ 0 ∷ 1 ∷ 1 ∷ 1 ∷ 2 ∷ 2 ∷ 3 ∷ 3 ∷ 3 ∷ 4 ∷ 6 ∷ 6 ∷ []) ∷
    term 1 (0 ∷ 0 ∷ 1 ∷ 2 ∷ 2 ∷ 2 ∷ 3 ∷ 3 ∷ 4 ∷ 4 ∷ 5 ∷ 6 ∷ 6 ∷ []) ∷
    term 1 (0 ∷ 0 ∷ 1 ∷ 2 ∷ 2 ∷ 3 ∷ 4 ∷ 6 ∷ []) ∷
    term 1 (0 ∷ 1 ∷ 1 ∷ 2 ∷ 2 ∷ 3 ∷ 3 ∷ 3 ∷ 4 ∷ 4 ∷ 5 ∷ 6 ∷ 6 ∷ []) ∷
    term 1 (0 ∷ 1 ∷ 1 ∷ 2 ∷ 3 ∷ 3 ∷ 4 ∷ 6 ∷ []) ∷ term 1 (0 ∷ 2 ∷ 2 ∷ 3 ∷ 4 ∷ 4 ∷ 5 ∷ 6 ∷ []) ∷
    term 1 (0 ∷ 2 ∷ 3 ∷ 3 ∷ 4 ∷ 5 ∷ 5 ∷ 6 ∷ []) ∷ term 1 (0 ∷ 2 ∷ 4 ∷ []) ∷ term 1 (0 ∷ 3 ∷ 5 ∷ []) ∷
    term 1 (1 ∷ 2 ∷ 2 ∷ 3 ∷ 4 ∷ 5 ∷ 5 ∷ 6 ∷ []) ∷ term 1 (1 ∷ 2 ∷ 3 ∷ 3 ∷ 4 ∷ 4 ∷ 5 ∷ 6 ∷ []) ∷ [])

first_at_r_taken : Expression
first_at_r_taken =
    total
    (term 1 (0 ∷ 0 ∷ 1 ∷ 2 ∷ 2 ∷ 3 ∷ 3 ∷ 3 ∷ 4 ∷ 5 ∷ 5 ∷ 6 ∷ 6 ∷ []) ∷
    term 1 (0 ∷ 0 ∷ 1 ∷ 2 ∷ 2 ∷ 3 ∷ 4 ∷ 5 ∷ 5 ∷ 6 ∷ []) ∷ term 1 (0 ∷ 0 ∷ 1 ∷ 2 ∷ 3 ∷ 3 ∷ 4 ∷ 4 ∷ 5 ∷ 6 ∷ []) ∷
    term 1 (0 ∷ 0 ∷ 1 ∷ 2 ∷ 3 ∷ 3 ∷ 5 ∷ 6 ∷ []) ∷
    term 1 (0 ∷ 1 ∷ 1 ∷ 2 ∷ 2 ∷ 2 ∷ 3 ∷ 3 ∷ 4 ∷ 5 ∷ 5 ∷ 6 ∷ 6 ∷ []) ∷
    term 1 (0 ∷ 1 ∷ 1 ∷ 2 ∷ 2 ∷ 2 ∷ 4 ∷ 5 ∷ 5 ∷ 6 ∷ []) ∷ term 1 (0 ∷ 1 ∷ 1 ∷ 2 ∷ 2 ∷ 3 ∷ 4 ∷ 4 ∷ 5 ∷ 6 ∷ []) ∷
    term 1 (0 ∷ 1 ∷ 1 ∷ 2 ∷ 2 ∷ 3 ∷ 5 ∷ 6 ∷ []) ∷ term 1 (0 ∷ 1 ∷ 1 ∷ 2 ∷ 3 ∷ 3 ∷ 4 ∷ 5 ∷ 5 ∷ 6 ∷ []) ∷
    term 1 (0 ∷ 1 ∷ 1 ∷ 3 ∷ 3 ∷ 3 ∷ 4 ∷ 4 ∷ 5 ∷ 6 ∷ []) ∷ term 1 (1 ∷ 1 ∷ 1 ∷ 2 ∷ 2 ∷ 3 ∷ 4 ∷ 5 ∷ 5 ∷ 6 ∷ []) ∷
    term 1 (1 ∷ 1 ∷ 1 ∷ 2 ∷ 3 ∷ 3 ∷ 4 ∷ 4 ∷ 5 ∷ 6 ∷ []) ∷ [])

first_left : Expression
first_left = (product (sum (product (product (sum (product x′ w′) (product y′ v′)) q′) t′) (product (product (sum (product y′ w′) (product x′ v′)) (sum (constant 1) (product d′ (product (product x′ v′) (product y′ w′))))) s′)) (sum (product (sum (constant 1) (product d′ (product (product v′ s′) (product w′ t′)))) r′) (product d′ (product (product x′ (sum (product v′ t′) (product w′ s′))) (product y′ (sum (product w′ t′) (product v′ s′)))))))

first_right : Expression
first_right = (product (sum (product x′ (product (sum (product w′ t′) (product v′ s′)) (sum (constant 1) (product d′ (product (product v′ s′) (product w′ t′)))))) (product y′ (product (sum (product v′ t′) (product w′ s′)) r′))) (sum (product (sum (constant 1) (product d′ (product (product x′ v′) (product y′ w′)))) q′) (product d′ (product (product (sum (product x′ w′) (product y′ v′)) s′) (product (sum (product y′ w′) (product x′ v′)) t′)))))

first_equations : List Equation
first_equations =
    equation_on_x first_on_x_added first_on_x_taken
    ∷ equation_on_v first_on_v_added first_on_v_taken
    ∷ equation_on_s first_on_s_added first_on_s_taken
    ∷ equation_at_q first_at_q_added first_at_q_taken
    ∷ equation_at_r first_at_r_added first_at_r_taken
    ∷ []

pub first : (p x y v w s t d q r : ℕ) → IsOn p d x y → IsOn p d v w → IsOn p d s t → (q + d * (x * v * (y * w))) % p ≡ 1 % p → (r + d * (v * s * (w * t))) % p ≡ 1 % p
    → (((x * w + y * v) * q * t + (y * w + x * v) * (1 + d * (x * v * (y * w))) * s) * ((1 + d * (v * s * (w * t))) * r + d * (x * (v * t + w * s) * (y * (w * t + v * s))))) % p
    ≡ ((x * ((w * t + v * s) * (1 + d * (v * s * (w * t)))) + y * ((v * t + w * s) * r)) * ((1 + d * (x * v * (y * w))) * q + d * ((x * w + y * v) * s * ((y * w + x * v) * t)))) % p
unfolding computing first_left first_right first_equations equation_on_x first_on_x_added first_on_x_taken equation_on_v first_on_v_added first_on_v_taken equation_on_s first_on_s_added first_on_s_taken equation_at_q first_at_q_added first_at_q_taken equation_at_r first_at_r_added first_at_r_taken
first p x y v w s t d q r on_x on_v on_s at_q at_r =
    by-equations 9 p (listed (x ∷ y ∷ v ∷ w ∷ s ∷ t ∷ d ∷ q ∷ r ∷ [])) first_equations (on_x, (on_v, (on_s, (at_q, (at_r, tt))))) first_left first_right refl

second_on_x_added : Expression
second_on_x_added =
    total
    (term 1 (0 ∷ 2 ∷ 2 ∷ 2 ∷ 2 ∷ 3 ∷ 3 ∷ 3 ∷ 4 ∷ 5 ∷ 5 ∷ 6 ∷ 6 ∷ []) ∷
    term 1 (0 ∷ 2 ∷ 2 ∷ 2 ∷ 2 ∷ 3 ∷ 4 ∷ 5 ∷ 5 ∷ 6 ∷ []) ∷
    term 1 (0 ∷ 2 ∷ 2 ∷ 2 ∷ 3 ∷ 3 ∷ 3 ∷ 3 ∷ 4 ∷ 4 ∷ 5 ∷ 6 ∷ 6 ∷ []) ∷
    term 1 (0 ∷ 2 ∷ 2 ∷ 2 ∷ 3 ∷ 3 ∷ 5 ∷ 5 ∷ 5 ∷ 6 ∷ []) ∷ term 1 (1 ∷ 2 ∷ 2 ∷ 3 ∷ 3 ∷ 3 ∷ 5 ∷ 5 ∷ 5 ∷ 6 ∷ []) ∷
    term 1 (1 ∷ 2 ∷ 3 ∷ 3 ∷ 3 ∷ 3 ∷ 4 ∷ 5 ∷ 5 ∷ 6 ∷ []) ∷ [])

second_on_x_taken : Expression
second_on_x_taken =
    total
    (term 1 (0 ∷ 2 ∷ 2 ∷ 2 ∷ 3 ∷ 3 ∷ 5 ∷ 6 ∷ []) ∷ term 1 (0 ∷ 2 ∷ 2 ∷ 3 ∷ 3 ∷ 3 ∷ 4 ∷ 4 ∷ 4 ∷ 6 ∷ []) ∷
    term 1 (0 ∷ 2 ∷ 2 ∷ 3 ∷ 3 ∷ 3 ∷ 4 ∷ 6 ∷ []) ∷ term 1 (0 ∷ 2 ∷ 3 ∷ 3 ∷ 3 ∷ 3 ∷ 4 ∷ 4 ∷ 5 ∷ 6 ∷ []) ∷
    term 1 (1 ∷ 2 ∷ 2 ∷ 2 ∷ 2 ∷ 3 ∷ 3 ∷ 3 ∷ 4 ∷ 4 ∷ 5 ∷ 6 ∷ 6 ∷ []) ∷
    term 1 (1 ∷ 2 ∷ 2 ∷ 2 ∷ 2 ∷ 3 ∷ 4 ∷ 4 ∷ 5 ∷ 6 ∷ []) ∷
    term 1 (1 ∷ 2 ∷ 2 ∷ 2 ∷ 3 ∷ 3 ∷ 3 ∷ 3 ∷ 4 ∷ 5 ∷ 5 ∷ 6 ∷ 6 ∷ []) ∷
    term 1 (1 ∷ 2 ∷ 2 ∷ 2 ∷ 3 ∷ 3 ∷ 4 ∷ 4 ∷ 4 ∷ 6 ∷ []) ∷ term 1 (1 ∷ 2 ∷ 2 ∷ 2 ∷ 3 ∷ 3 ∷ 4 ∷ 6 ∷ []) ∷
    term 1 (1 ∷ 2 ∷ 2 ∷ 3 ∷ 3 ∷ 3 ∷ 5 ∷ 6 ∷ []) ∷ [])

second_on_v_added : Expression
second_on_v_added =
    total
    (term 1 (0 ∷ 0 ∷ 0 ∷ 2 ∷ 4 ∷ 4 ∷ 5 ∷ []) ∷ term 1 (0 ∷ 0 ∷ 0 ∷ 2 ∷ 4 ∷ 4 ∷ 5 ∷ 5 ∷ 5 ∷ 6 ∷ []) ∷
    term 1 (0 ∷ 0 ∷ 0 ∷ 2 ∷ 5 ∷ []) ∷ term 1 (0 ∷ 0 ∷ 0 ∷ 3 ∷ 4 ∷ []) ∷ term 1 (0 ∷ 0 ∷ 0 ∷ 3 ∷ 4 ∷ 4 ∷ 4 ∷ []) ∷
    term 1 (0 ∷ 0 ∷ 0 ∷ 3 ∷ 4 ∷ 4 ∷ 4 ∷ 5 ∷ 5 ∷ 6 ∷ []) ∷
    term 1 (0 ∷ 0 ∷ 1 ∷ 2 ∷ 2 ∷ 3 ∷ 4 ∷ 4 ∷ 5 ∷ 5 ∷ 5 ∷ 6 ∷ 6 ∷ []) ∷
    term 1 (0 ∷ 0 ∷ 1 ∷ 2 ∷ 2 ∷ 3 ∷ 4 ∷ 4 ∷ 5 ∷ 6 ∷ []) ∷ term 1 (0 ∷ 0 ∷ 1 ∷ 2 ∷ 3 ∷ 3 ∷ 4 ∷ 5 ∷ 5 ∷ 6 ∷ []) ∷
    term 1 (0 ∷ 0 ∷ 1 ∷ 2 ∷ 4 ∷ []) ∷ term 1 (0 ∷ 0 ∷ 1 ∷ 2 ∷ 4 ∷ 4 ∷ 4 ∷ []) ∷
    term 1 (0 ∷ 0 ∷ 1 ∷ 2 ∷ 4 ∷ 4 ∷ 4 ∷ 5 ∷ 5 ∷ 6 ∷ []) ∷ term 1 (0 ∷ 0 ∷ 1 ∷ 3 ∷ 4 ∷ 4 ∷ 5 ∷ []) ∷
    term 1 (0 ∷ 0 ∷ 1 ∷ 3 ∷ 4 ∷ 4 ∷ 5 ∷ 5 ∷ 5 ∷ 6 ∷ []) ∷ term 1 (0 ∷ 0 ∷ 1 ∷ 3 ∷ 5 ∷ []) ∷
    term 1 (0 ∷ 1 ∷ 1 ∷ 2 ∷ 2 ∷ 3 ∷ 4 ∷ 5 ∷ 5 ∷ 6 ∷ []) ∷
    term 1 (0 ∷ 1 ∷ 1 ∷ 2 ∷ 3 ∷ 3 ∷ 4 ∷ 4 ∷ 5 ∷ 5 ∷ 5 ∷ 6 ∷ 6 ∷ []) ∷
    term 1 (0 ∷ 1 ∷ 1 ∷ 2 ∷ 3 ∷ 3 ∷ 4 ∷ 4 ∷ 5 ∷ 6 ∷ []) ∷ term 1 (0 ∷ 1 ∷ 1 ∷ 2 ∷ 5 ∷ 5 ∷ 5 ∷ []) ∷
    term 1 (0 ∷ 1 ∷ 1 ∷ 3 ∷ 4 ∷ 5 ∷ 5 ∷ []) ∷ term 1 (0 ∷ 2 ∷ 4 ∷ 4 ∷ 5 ∷ []) ∷
    term 1 (0 ∷ 2 ∷ 4 ∷ 4 ∷ 5 ∷ 5 ∷ 5 ∷ 6 ∷ []) ∷ term 1 (0 ∷ 2 ∷ 5 ∷ []) ∷ term 1 (0 ∷ 3 ∷ 4 ∷ []) ∷
    term 1 (0 ∷ 3 ∷ 4 ∷ 4 ∷ 4 ∷ []) ∷ term 1 (0 ∷ 3 ∷ 4 ∷ 4 ∷ 4 ∷ 5 ∷ 5 ∷ 6 ∷ []) ∷
    term 1 (1 ∷ 1 ∷ 1 ∷ 2 ∷ 4 ∷ 5 ∷ 5 ∷ []) ∷ term 1 (1 ∷ 1 ∷ 1 ∷ 3 ∷ 5 ∷ 5 ∷ 5 ∷ []) ∷
    term 1 (1 ∷ 2 ∷ 2 ∷ 3 ∷ 4 ∷ 4 ∷ 5 ∷ 6 ∷ []) ∷ term 1 (1 ∷ 2 ∷ 3 ∷ 3 ∷ 4 ∷ 5 ∷ 5 ∷ 6 ∷ []) ∷
    term 1 (1 ∷ 2 ∷ 4 ∷ []) ∷ term 1 (1 ∷ 2 ∷ 4 ∷ 4 ∷ 4 ∷ []) ∷ term 1 (1 ∷ 2 ∷ 4 ∷ 4 ∷ 4 ∷ 5 ∷ 5 ∷ 6 ∷ []) ∷
    term 1 (1 ∷ 3 ∷ 4 ∷ 4 ∷ 5 ∷ []) ∷ term 1 (1 ∷ 3 ∷ 4 ∷ 4 ∷ 5 ∷ 5 ∷ 5 ∷ 6 ∷ []) ∷ term 1 (1 ∷ 3 ∷ 5 ∷ []) ∷ [])

second_on_v_taken : Expression
second_on_v_taken =
    total
    (term 1 (0 ∷ 0 ∷ 0 ∷ 2 ∷ 2 ∷ 3 ∷ 4 ∷ 5 ∷ 5 ∷ 6 ∷ []) ∷ term 1 (0 ∷ 0 ∷ 0 ∷ 2 ∷ 3 ∷ 3 ∷ 4 ∷ 4 ∷ 5 ∷ 6 ∷ []) ∷
    term 1 (0 ∷ 0 ∷ 0 ∷ 2 ∷ 5 ∷ 5 ∷ 5 ∷ []) ∷ term 1 (0 ∷ 0 ∷ 0 ∷ 3 ∷ 4 ∷ 5 ∷ 5 ∷ []) ∷
    term 1 (0 ∷ 0 ∷ 1 ∷ 2 ∷ 3 ∷ 3 ∷ 4 ∷ 4 ∷ 4 ∷ 5 ∷ 5 ∷ 6 ∷ 6 ∷ []) ∷ term 1 (0 ∷ 0 ∷ 1 ∷ 2 ∷ 4 ∷ 5 ∷ 5 ∷ []) ∷
    term 1 (0 ∷ 0 ∷ 1 ∷ 3 ∷ 5 ∷ 5 ∷ 5 ∷ []) ∷ term 1 (0 ∷ 1 ∷ 1 ∷ 2 ∷ 2 ∷ 3 ∷ 4 ∷ 4 ∷ 4 ∷ 5 ∷ 5 ∷ 6 ∷ 6 ∷ []) ∷
    term 1 (0 ∷ 1 ∷ 1 ∷ 2 ∷ 4 ∷ 4 ∷ 5 ∷ []) ∷ term 1 (0 ∷ 1 ∷ 1 ∷ 2 ∷ 4 ∷ 4 ∷ 5 ∷ 5 ∷ 5 ∷ 6 ∷ []) ∷
    term 1 (0 ∷ 1 ∷ 1 ∷ 2 ∷ 5 ∷ []) ∷ term 1 (0 ∷ 1 ∷ 1 ∷ 3 ∷ 4 ∷ []) ∷ term 1 (0 ∷ 1 ∷ 1 ∷ 3 ∷ 4 ∷ 4 ∷ 4 ∷ []) ∷
    term 1 (0 ∷ 1 ∷ 1 ∷ 3 ∷ 4 ∷ 4 ∷ 4 ∷ 5 ∷ 5 ∷ 6 ∷ []) ∷ term 1 (0 ∷ 2 ∷ 2 ∷ 3 ∷ 4 ∷ 5 ∷ 5 ∷ 6 ∷ []) ∷
    term 1 (0 ∷ 2 ∷ 3 ∷ 3 ∷ 4 ∷ 4 ∷ 5 ∷ 6 ∷ []) ∷ term 1 (0 ∷ 2 ∷ 5 ∷ 5 ∷ 5 ∷ []) ∷
    term 1 (0 ∷ 3 ∷ 4 ∷ 5 ∷ 5 ∷ []) ∷ term 1 (1 ∷ 1 ∷ 1 ∷ 2 ∷ 2 ∷ 3 ∷ 4 ∷ 4 ∷ 5 ∷ 6 ∷ []) ∷
    term 1 (1 ∷ 1 ∷ 1 ∷ 2 ∷ 3 ∷ 3 ∷ 4 ∷ 5 ∷ 5 ∷ 6 ∷ []) ∷ term 1 (1 ∷ 1 ∷ 1 ∷ 2 ∷ 4 ∷ []) ∷
    term 1 (1 ∷ 1 ∷ 1 ∷ 2 ∷ 4 ∷ 4 ∷ 4 ∷ []) ∷ term 1 (1 ∷ 1 ∷ 1 ∷ 2 ∷ 4 ∷ 4 ∷ 4 ∷ 5 ∷ 5 ∷ 6 ∷ []) ∷
    term 1 (1 ∷ 1 ∷ 1 ∷ 3 ∷ 4 ∷ 4 ∷ 5 ∷ []) ∷ term 1 (1 ∷ 1 ∷ 1 ∷ 3 ∷ 4 ∷ 4 ∷ 5 ∷ 5 ∷ 5 ∷ 6 ∷ []) ∷
    term 1 (1 ∷ 1 ∷ 1 ∷ 3 ∷ 5 ∷ []) ∷ term 1 (1 ∷ 2 ∷ 4 ∷ 5 ∷ 5 ∷ []) ∷ term 1 (1 ∷ 3 ∷ 5 ∷ 5 ∷ 5 ∷ []) ∷ [])

second_on_s_added : Expression
second_on_s_added =
    total
    (term 1 (0 ∷ 0 ∷ 0 ∷ 2 ∷ 3 ∷ 3 ∷ 5 ∷ []) ∷ term 1 (0 ∷ 0 ∷ 0 ∷ 3 ∷ 3 ∷ 3 ∷ 4 ∷ []) ∷
    term 1 (0 ∷ 0 ∷ 1 ∷ 2 ∷ 3 ∷ 3 ∷ 4 ∷ []) ∷ term 1 (0 ∷ 0 ∷ 1 ∷ 2 ∷ 3 ∷ 3 ∷ 4 ∷ 6 ∷ []) ∷
    term 1 (0 ∷ 0 ∷ 1 ∷ 3 ∷ 3 ∷ 3 ∷ 5 ∷ []) ∷ term 1 (0 ∷ 1 ∷ 1 ∷ 2 ∷ 2 ∷ 2 ∷ 5 ∷ []) ∷
    term 1 (0 ∷ 1 ∷ 1 ∷ 2 ∷ 2 ∷ 3 ∷ 4 ∷ []) ∷ term 1 (0 ∷ 1 ∷ 1 ∷ 2 ∷ 2 ∷ 3 ∷ 4 ∷ 6 ∷ []) ∷
    term 1 (0 ∷ 1 ∷ 1 ∷ 2 ∷ 5 ∷ []) ∷ term 1 (0 ∷ 1 ∷ 1 ∷ 3 ∷ 4 ∷ []) ∷ term 1 (0 ∷ 2 ∷ 3 ∷ 3 ∷ 5 ∷ []) ∷
    term 1 (0 ∷ 3 ∷ 3 ∷ 3 ∷ 4 ∷ []) ∷ term 1 (1 ∷ 1 ∷ 1 ∷ 2 ∷ 2 ∷ 2 ∷ 4 ∷ []) ∷
    term 1 (1 ∷ 1 ∷ 1 ∷ 2 ∷ 2 ∷ 3 ∷ 5 ∷ []) ∷ term 1 (1 ∷ 1 ∷ 1 ∷ 2 ∷ 4 ∷ []) ∷ term 1 (1 ∷ 1 ∷ 1 ∷ 3 ∷ 5 ∷ []) ∷
    term 1 (1 ∷ 2 ∷ 3 ∷ 3 ∷ 4 ∷ []) ∷ term 1 (1 ∷ 3 ∷ 3 ∷ 3 ∷ 5 ∷ []) ∷ [])

second_on_s_taken : Expression
second_on_s_taken =
    total
    (term 1 (0 ∷ 0 ∷ 0 ∷ 2 ∷ 2 ∷ 2 ∷ 5 ∷ []) ∷ term 1 (0 ∷ 0 ∷ 0 ∷ 2 ∷ 2 ∷ 3 ∷ 4 ∷ []) ∷
    term 1 (0 ∷ 0 ∷ 0 ∷ 2 ∷ 5 ∷ []) ∷ term 1 (0 ∷ 0 ∷ 0 ∷ 3 ∷ 4 ∷ []) ∷ term 1 (0 ∷ 0 ∷ 1 ∷ 2 ∷ 2 ∷ 2 ∷ 4 ∷ []) ∷
    term 1 (0 ∷ 0 ∷ 1 ∷ 2 ∷ 2 ∷ 3 ∷ 5 ∷ []) ∷ term 1 (0 ∷ 0 ∷ 1 ∷ 2 ∷ 2 ∷ 3 ∷ 5 ∷ 6 ∷ []) ∷
    term 1 (0 ∷ 0 ∷ 1 ∷ 2 ∷ 4 ∷ []) ∷ term 1 (0 ∷ 0 ∷ 1 ∷ 3 ∷ 5 ∷ []) ∷ term 1 (0 ∷ 1 ∷ 1 ∷ 2 ∷ 3 ∷ 3 ∷ 5 ∷ []) ∷
    term 1 (0 ∷ 1 ∷ 1 ∷ 2 ∷ 3 ∷ 3 ∷ 5 ∷ 6 ∷ []) ∷ term 1 (0 ∷ 1 ∷ 1 ∷ 3 ∷ 3 ∷ 3 ∷ 4 ∷ []) ∷
    term 1 (0 ∷ 2 ∷ 2 ∷ 2 ∷ 5 ∷ []) ∷ term 1 (0 ∷ 2 ∷ 2 ∷ 3 ∷ 4 ∷ []) ∷ term 1 (0 ∷ 2 ∷ 5 ∷ []) ∷
    term 1 (0 ∷ 3 ∷ 4 ∷ []) ∷ term 1 (1 ∷ 1 ∷ 1 ∷ 2 ∷ 3 ∷ 3 ∷ 4 ∷ []) ∷ term 1 (1 ∷ 1 ∷ 1 ∷ 3 ∷ 3 ∷ 3 ∷ 5 ∷ []) ∷
    term 1 (1 ∷ 2 ∷ 2 ∷ 2 ∷ 4 ∷ []) ∷ term 1 (1 ∷ 2 ∷ 2 ∷ 3 ∷ 5 ∷ []) ∷ term 1 (1 ∷ 2 ∷ 4 ∷ []) ∷
    term 1 (1 ∷ 3 ∷ 5 ∷ []) ∷ [])

second_at_q_added : Expression
second_at_q_added =
    total
    (term 1 (0 ∷ 2 ∷ 3 ∷ 3 ∷ 4 ∷ 4 ∷ 5 ∷ 6 ∷ 8 ∷ []) ∷ term 1 (1 ∷ 2 ∷ 2 ∷ 3 ∷ 4 ∷ 4 ∷ 5 ∷ 6 ∷ 8 ∷ []) ∷
    term 1 (1 ∷ 2 ∷ 4 ∷ 8 ∷ []) ∷ [])

second_at_q_taken : Expression
second_at_q_taken =
    total
    (term 1 (0 ∷ 0 ∷ 1 ∷ 2 ∷ 2 ∷ 3 ∷ 4 ∷ 4 ∷ 5 ∷ 6 ∷ []) ∷ term 1 (0 ∷ 0 ∷ 1 ∷ 2 ∷ 2 ∷ 3 ∷ 5 ∷ 6 ∷ 8 ∷ []) ∷
    term 1 (0 ∷ 0 ∷ 1 ∷ 2 ∷ 3 ∷ 3 ∷ 4 ∷ 4 ∷ 4 ∷ 6 ∷ []) ∷ term 1 (0 ∷ 0 ∷ 1 ∷ 2 ∷ 3 ∷ 3 ∷ 4 ∷ 5 ∷ 5 ∷ 6 ∷ []) ∷
    term 1 (0 ∷ 0 ∷ 1 ∷ 2 ∷ 3 ∷ 3 ∷ 4 ∷ 6 ∷ 8 ∷ []) ∷ term 1 (0 ∷ 0 ∷ 1 ∷ 3 ∷ 3 ∷ 3 ∷ 4 ∷ 4 ∷ 5 ∷ 6 ∷ []) ∷
    term 1 (0 ∷ 1 ∷ 1 ∷ 2 ∷ 2 ∷ 2 ∷ 3 ∷ 3 ∷ 4 ∷ 4 ∷ 5 ∷ 6 ∷ 6 ∷ []) ∷
    term 1 (0 ∷ 1 ∷ 1 ∷ 2 ∷ 2 ∷ 2 ∷ 4 ∷ 4 ∷ 5 ∷ 6 ∷ []) ∷
    term 1 (0 ∷ 1 ∷ 1 ∷ 2 ∷ 2 ∷ 3 ∷ 3 ∷ 3 ∷ 4 ∷ 5 ∷ 5 ∷ 6 ∷ 6 ∷ []) ∷
    term 1 (0 ∷ 1 ∷ 1 ∷ 2 ∷ 2 ∷ 3 ∷ 4 ∷ 4 ∷ 4 ∷ 6 ∷ []) ∷ term 1 (0 ∷ 1 ∷ 1 ∷ 2 ∷ 2 ∷ 3 ∷ 4 ∷ 5 ∷ 5 ∷ 6 ∷ []) ∷
    term 1 (0 ∷ 1 ∷ 1 ∷ 2 ∷ 2 ∷ 3 ∷ 4 ∷ 6 ∷ []) ∷ term 1 (0 ∷ 1 ∷ 1 ∷ 2 ∷ 3 ∷ 3 ∷ 4 ∷ 4 ∷ 5 ∷ 6 ∷ []) ∷
    term 1 (0 ∷ 1 ∷ 1 ∷ 2 ∷ 3 ∷ 3 ∷ 5 ∷ 6 ∷ []) ∷ term 1 (0 ∷ 2 ∷ 5 ∷ 8 ∷ []) ∷
    term 1 (1 ∷ 2 ∷ 2 ∷ 3 ∷ 4 ∷ 4 ∷ 5 ∷ 6 ∷ []) ∷ term 1 (1 ∷ 2 ∷ 3 ∷ 3 ∷ 4 ∷ 5 ∷ 5 ∷ 6 ∷ []) ∷
    term 1 (1 ∷ 2 ∷ 4 ∷ []) ∷ term 1 (1 ∷ 3 ∷ 5 ∷ []) ∷ [])

second_at_r_added : Expression
second_at_r_added =
    total
    (term 1 (0 ∷ 0 ∷ 0 ∷ 1 ∷ 1 ∷ 2 ∷ 2 ∷ 2 ∷ 3 ∷ 3 ∷ 5 ∷ 6 ∷ 6 ∷ []) ∷
    term 1 (0 ∷ 0 ∷ 0 ∷ 1 ∷ 1 ∷ 2 ∷ 2 ∷ 3 ∷ 3 ∷ 3 ∷ 4 ∷ 6 ∷ 6 ∷ []) ∷
    term 1 (0 ∷ 0 ∷ 0 ∷ 2 ∷ 2 ∷ 3 ∷ 4 ∷ 5 ∷ 5 ∷ 6 ∷ []) ∷ term 1 (0 ∷ 0 ∷ 0 ∷ 2 ∷ 3 ∷ 3 ∷ 4 ∷ 4 ∷ 5 ∷ 6 ∷ []) ∷
    term 1 (0 ∷ 0 ∷ 1 ∷ 2 ∷ 2 ∷ 2 ∷ 3 ∷ 3 ∷ 4 ∷ 5 ∷ 5 ∷ 6 ∷ 6 ∷ []) ∷
    term 1 (0 ∷ 0 ∷ 1 ∷ 2 ∷ 2 ∷ 2 ∷ 4 ∷ 5 ∷ 5 ∷ 6 ∷ []) ∷ term 1 (0 ∷ 0 ∷ 1 ∷ 2 ∷ 2 ∷ 3 ∷ 4 ∷ 4 ∷ 5 ∷ 6 ∷ []) ∷
    term 1 (0 ∷ 0 ∷ 1 ∷ 2 ∷ 2 ∷ 3 ∷ 5 ∷ 6 ∷ []) ∷ term 1 (0 ∷ 0 ∷ 1 ∷ 2 ∷ 3 ∷ 3 ∷ 4 ∷ 5 ∷ 5 ∷ 6 ∷ []) ∷
    term 1 (0 ∷ 0 ∷ 1 ∷ 3 ∷ 3 ∷ 3 ∷ 4 ∷ 4 ∷ 5 ∷ 6 ∷ []) ∷
    term 1 (0 ∷ 1 ∷ 1 ∷ 2 ∷ 2 ∷ 3 ∷ 3 ∷ 3 ∷ 4 ∷ 5 ∷ 5 ∷ 6 ∷ 6 ∷ []) ∷
    term 1 (0 ∷ 1 ∷ 1 ∷ 2 ∷ 2 ∷ 3 ∷ 4 ∷ 5 ∷ 5 ∷ 6 ∷ []) ∷ term 1 (0 ∷ 1 ∷ 1 ∷ 2 ∷ 3 ∷ 3 ∷ 4 ∷ 4 ∷ 5 ∷ 6 ∷ []) ∷
    term 1 (0 ∷ 1 ∷ 1 ∷ 2 ∷ 3 ∷ 3 ∷ 5 ∷ 6 ∷ []) ∷ term 1 (0 ∷ 2 ∷ 2 ∷ 3 ∷ 4 ∷ 5 ∷ 5 ∷ 6 ∷ []) ∷
    term 1 (0 ∷ 2 ∷ 3 ∷ 3 ∷ 4 ∷ 4 ∷ 5 ∷ 6 ∷ []) ∷ term 1 (1 ∷ 2 ∷ 2 ∷ 3 ∷ 4 ∷ 4 ∷ 5 ∷ 6 ∷ []) ∷
    term 1 (1 ∷ 2 ∷ 3 ∷ 3 ∷ 4 ∷ 5 ∷ 5 ∷ 6 ∷ []) ∷ term 1 (1 ∷ 2 ∷ 4 ∷ []) ∷ term 1 (1 ∷ 3 ∷ 5 ∷ []) ∷ [])

second_at_r_taken : Expression
second_at_r_taken =
    total
    (term 1 (0 ∷ 0 ∷ 1 ∷ 2 ∷ 2 ∷ 3 ∷ 3 ∷ 3 ∷ 4 ∷ 4 ∷ 5 ∷ 6 ∷ 6 ∷ []) ∷
    term 1 (0 ∷ 0 ∷ 1 ∷ 2 ∷ 3 ∷ 3 ∷ 4 ∷ 6 ∷ []) ∷
    term 1 (0 ∷ 1 ∷ 1 ∷ 2 ∷ 2 ∷ 2 ∷ 3 ∷ 3 ∷ 4 ∷ 4 ∷ 5 ∷ 6 ∷ 6 ∷ []) ∷
    term 1 (0 ∷ 1 ∷ 1 ∷ 2 ∷ 2 ∷ 3 ∷ 4 ∷ 6 ∷ []) ∷ [])

second_left : Expression
second_left = (sum (product (sum (product (product (sum (product y′ w′) (product x′ v′)) (sum (constant 1) (product d′ (product (product x′ v′) (product y′ w′))))) t′) (product (product (sum (product x′ w′) (product y′ v′)) q′) s′)) (product (sum (constant 1) (product d′ (product (product v′ s′) (product w′ t′)))) r′)) (product (sum (product y′ (product (sum (product w′ t′) (product v′ s′)) (sum (constant 1) (product d′ (product (product v′ s′) (product w′ t′)))))) (product x′ (product (sum (product v′ t′) (product w′ s′)) r′))) (product d′ (product (product (sum (product x′ w′) (product y′ v′)) s′) (product (sum (product y′ w′) (product x′ v′)) t′)))))

second_right : Expression
second_right = (sum (product (sum (product y′ (product (sum (product w′ t′) (product v′ s′)) (sum (constant 1) (product d′ (product (product v′ s′) (product w′ t′)))))) (product x′ (product (sum (product v′ t′) (product w′ s′)) r′))) (product (sum (constant 1) (product d′ (product (product x′ v′) (product y′ w′)))) q′)) (product (sum (product (product (sum (product y′ w′) (product x′ v′)) (sum (constant 1) (product d′ (product (product x′ v′) (product y′ w′))))) t′) (product (product (sum (product x′ w′) (product y′ v′)) q′) s′)) (product d′ (product (product x′ (sum (product v′ t′) (product w′ s′))) (product y′ (sum (product w′ t′) (product v′ s′)))))))

second_equations : List Equation
second_equations =
    equation_on_x second_on_x_added second_on_x_taken
    ∷ equation_on_v second_on_v_added second_on_v_taken
    ∷ equation_on_s second_on_s_added second_on_s_taken
    ∷ equation_at_q second_at_q_added second_at_q_taken
    ∷ equation_at_r second_at_r_added second_at_r_taken
    ∷ []

pub second : (p x y v w s t d q r : ℕ) → IsOn p d x y → IsOn p d v w → IsOn p d s t → (q + d * (x * v * (y * w))) % p ≡ 1 % p → (r + d * (v * s * (w * t))) % p ≡ 1 % p
    → (((y * w + x * v) * (1 + d * (x * v * (y * w))) * t + (x * w + y * v) * q * s) * ((1 + d * (v * s * (w * t))) * r) + (y * ((w * t + v * s) * (1 + d * (v * s * (w * t)))) + x * ((v * t + w * s) * r)) * (d * ((x * w + y * v) * s * ((y * w + x * v) * t)))) % p
    ≡ ((y * ((w * t + v * s) * (1 + d * (v * s * (w * t)))) + x * ((v * t + w * s) * r)) * ((1 + d * (x * v * (y * w))) * q) + ((y * w + x * v) * (1 + d * (x * v * (y * w))) * t + (x * w + y * v) * q * s) * (d * (x * (v * t + w * s) * (y * (w * t + v * s))))) % p
unfolding computing second_left second_right second_equations equation_on_x second_on_x_added second_on_x_taken equation_on_v second_on_v_added second_on_v_taken equation_on_s second_on_s_added second_on_s_taken equation_at_q second_at_q_added second_at_q_taken equation_at_r second_at_r_added second_at_r_taken
second p x y v w s t d q r on_x on_v on_s at_q at_r =
    by-equations 9 p (listed (x ∷ y ∷ v ∷ w ∷ s ∷ t ∷ d ∷ q ∷ r ∷ [])) second_equations (on_x, (on_v, (on_s, (at_q, (at_r, tt))))) second_left second_right refl
