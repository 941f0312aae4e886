-- The sum of two points of a twisted Edwards curve lies on it, times both denominators squared. Written by tools/identities.py.
use Rattle.std.proofs.Common.{◌≡◌, ℕ, ◌+◌, ◌*◌, ◌%◌, List, [], ◌∷◌, refl}
use Rattle.paseto_primes.specs.Identity.{Equation}
use Rattle.paseto_primes.specs.Polynomial.{Expression, constant, product, sum, variable}
use Rattle.paseto_primes.specs.Program.{listed}
use Rattle.paseto_primes.proofs.IdentityLaws.{by-equations, computing, term, total}
use Rattle.paseto_edwards_laws.specs.Group.{IsOn}

abbrev x′ : Expression
x′ = variable 0

abbrev y′ : Expression
y′ = variable 1

abbrev v′ : Expression
v′ = variable 2

abbrev w′ : Expression
w′ = variable 3

abbrev d′ : Expression
d′ = variable 4

equation_on_x : Expression → Expression → Equation
equation_on_x added taken =
    record { added = added; taken = taken; left = (product y′ y′); right = (sum (sum (constant 1) (product x′ x′)) (product d′ (product (product x′ x′) (product y′ y′)))) }

equation_on_v : Expression → Expression → Equation
equation_on_v added taken =
    record { added = added; taken = taken; left = (product w′ w′); right = (sum (sum (constant 1) (product v′ v′)) (product d′ (product (product v′ v′) (product w′ w′)))) }

summed_on_x_added : Expression
summed_on_x_added =
    total
    (term 1 (0 ∷ 0 ∷ 1 ∷ 1 ∷ 2 ∷ 2 ∷ 2 ∷ 2 ∷ 3 ∷ 3 ∷ 3 ∷ 3 ∷ 4 ∷ 4 ∷ 4 ∷ []) ∷
    term 1 (0 ∷ 0 ∷ 2 ∷ 2 ∷ 3 ∷ 3 ∷ 3 ∷ 3 ∷ 4 ∷ []) ∷
    term 1 (1 ∷ 1 ∷ 2 ∷ 2 ∷ 2 ∷ 2 ∷ 3 ∷ 3 ∷ 3 ∷ 3 ∷ 4 ∷ 4 ∷ []) ∷
    term 1 (1 ∷ 1 ∷ 2 ∷ 2 ∷ 2 ∷ 2 ∷ 3 ∷ 3 ∷ 4 ∷ []) ∷ term 1 (2 ∷ 2 ∷ 2 ∷ 2 ∷ []) ∷
    term 2 (2 ∷ 2 ∷ 3 ∷ 3 ∷ 3 ∷ 3 ∷ []) ∷ term 1 (3 ∷ 3 ∷ 3 ∷ 3 ∷ []) ∷ [])

summed_on_x_taken : Expression
summed_on_x_taken =
    total
    (term 1 (0 ∷ 0 ∷ 2 ∷ 2 ∷ 2 ∷ 2 ∷ 3 ∷ 3 ∷ 3 ∷ 3 ∷ 4 ∷ 4 ∷ []) ∷
    term 1 (0 ∷ 0 ∷ 2 ∷ 2 ∷ 2 ∷ 2 ∷ 3 ∷ 3 ∷ 4 ∷ []) ∷ term 1 (1 ∷ 1 ∷ 2 ∷ 2 ∷ 3 ∷ 3 ∷ 3 ∷ 3 ∷ 4 ∷ []) ∷
    term 2 (2 ∷ 2 ∷ 2 ∷ 2 ∷ 3 ∷ 3 ∷ []) ∷ term 2 (2 ∷ 2 ∷ 2 ∷ 2 ∷ 3 ∷ 3 ∷ 3 ∷ 3 ∷ 4 ∷ []) ∷
    term 1 (2 ∷ 2 ∷ 2 ∷ 2 ∷ 3 ∷ 3 ∷ 3 ∷ 3 ∷ 4 ∷ 4 ∷ []) ∷ term 4 (2 ∷ 2 ∷ 3 ∷ 3 ∷ []) ∷
    term 2 (2 ∷ 2 ∷ 3 ∷ 3 ∷ 4 ∷ []) ∷ [])

summed_on_v_added : Expression
summed_on_v_added =
    total
    (term 1 [] ∷ term 1 (0 ∷ 0 ∷ 0 ∷ 0 ∷ 2 ∷ 2 ∷ 3 ∷ 3 ∷ 4 ∷ []) ∷ term 2 (0 ∷ 0 ∷ 2 ∷ 2 ∷ 3 ∷ 3 ∷ []) ∷
    term 2 (0 ∷ 0 ∷ 2 ∷ 2 ∷ 3 ∷ 3 ∷ 4 ∷ []) ∷ term 1 (0 ∷ 0 ∷ 3 ∷ 3 ∷ []) ∷
    term 1 (1 ∷ 1 ∷ 1 ∷ 1 ∷ 2 ∷ 2 ∷ 3 ∷ 3 ∷ 4 ∷ []) ∷ term 1 (1 ∷ 1 ∷ 2 ∷ 2 ∷ []) ∷ term 2 (2 ∷ 2 ∷ 3 ∷ 3 ∷ []) ∷
    term 1 (2 ∷ 2 ∷ 3 ∷ 3 ∷ 4 ∷ []) ∷ term 1 (3 ∷ 3 ∷ []) ∷ [])

summed_on_v_taken : Expression
summed_on_v_taken =
    total
    (term 1 (0 ∷ 0 ∷ 2 ∷ 2 ∷ []) ∷ term 2 (1 ∷ 1 ∷ 2 ∷ 2 ∷ 3 ∷ 3 ∷ []) ∷ term 2 (1 ∷ 1 ∷ 2 ∷ 2 ∷ 3 ∷ 3 ∷ 4 ∷ []) ∷
    term 1 (1 ∷ 1 ∷ 3 ∷ 3 ∷ []) ∷ term 1 (2 ∷ 2 ∷ []) ∷ [])

summed_left : Expression
summed_left = (sum (product (product (sum (constant 1) (product d′ (product (product x′ v′) (product y′ w′)))) (sum (constant 1) (product d′ (product (product x′ v′) (product y′ w′))))) (product (sum (product y′ w′) (product x′ v′)) (sum (product y′ w′) (product x′ v′)))) (product (product (constant 2) (product d′ (product (product x′ v′) (product y′ w′)))) (sum (product (sum (constant 1) (product d′ (product (product x′ v′) (product y′ w′)))) (sum (constant 1) (product d′ (product (product x′ v′) (product y′ w′))))) (product (sum (product x′ w′) (product y′ v′)) (sum (product x′ w′) (product y′ v′))))))

summed_right : Expression
summed_right = (sum (product (sum (constant 1) (product (product d′ (product (product x′ v′) (product y′ w′))) (product d′ (product (product x′ v′) (product y′ w′))))) (sum (product (sum (constant 1) (product d′ (product (product x′ v′) (product y′ w′)))) (sum (constant 1) (product d′ (product (product x′ v′) (product y′ w′))))) (product (sum (product x′ w′) (product y′ v′)) (sum (product x′ w′) (product y′ v′))))) (product d′ (product (product (sum (product x′ w′) (product y′ v′)) (sum (product x′ w′) (product y′ v′))) (product (sum (product y′ w′) (product x′ v′)) (sum (product y′ w′) (product x′ v′))))))

summed_equations : List Equation
summed_equations =
    equation_on_x summed_on_x_added summed_on_x_taken
    ∷ equation_on_v summed_on_v_added summed_on_v_taken
    ∷ []

pub summed : (p x y v w d : ℕ) → IsOn p d x y → IsOn p d v w
    → ((1 + d * (x * v * (y * w))) * (1 + d * (x * v * (y * w))) * ((y * w + x * v) * (y * w + x * v)) + 2 * (d * (x * v * (y * w))) * ((1 + d * (x * v * (y * w))) * (1 + d * (x * v * (y * w))) + (x * w + y * v) * (x * w + y * v))) % p
    ≡ ((1 + d * (x * v * (y * w)) * (d * (x * v * (y * w)))) * ((1 + d * (x * v * (y * w))) * (1 + d * (x * v * (y * w))) + (x * w + y * v) * (x * w + y * v)) + d * ((x * w + y * v) * (x * w + y * v) * ((y * w + x * v) * (y * w + x * v)))) % p
unfolding computing summed_left summed_right summed_equations equation_on_x summed_on_x_added summed_on_x_taken equation_on_v summed_on_v_added summed_on_v_taken
summed p x y v w d on_x on_v =
    by-equations 5 p (listed (x ∷ y ∷ v ∷ w ∷ d ∷ [])) summed_equations (on_x, (on_v, tt)) summed_left summed_right refl
