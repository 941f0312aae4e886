-- Polynomials with natural coefficients, as the normal form of expressions.
use Rattle.std.specs.Prelude.{ℕ, zero, suc, ◌+◌, ◌-◌, ◌*◌, List, [], ◌∷◌, nat_eq, if◌then◌else◌}

-- an expression over numbered variables; a difference is one modulo a number
pub data Expression : Type 0 where
  variable : ℕ → Expression
  constant : ℕ → Expression
  sum : Expression → Expression → Expression
  product : Expression → Expression → Expression
  difference : Expression → Expression → Expression

-- the number of a variable, of which there are n: the others are 0
unfoldable pub read : ℕ → (ℕ → ℕ) → ℕ → ℕ
read zero numbers i = 0
read (suc n) numbers i = if nat_eq i n then numbers n else read n numbers i

-- the value of an expression at n numbers, where m - 1 stands for -1
unfoldable pub value : (n m : ℕ) → (ℕ → ℕ) → Expression → ℕ
value n m numbers (variable i) = read n numbers i
value n m numbers (constant c) = c
value n m numbers (sum a b) = value n m numbers a + value n m numbers b
value n m numbers (product a b) = value n m numbers a * value n m numbers b
value n m numbers (difference a b) = value n m numbers a + (m - 1) * value n m numbers b

-- a polynomial in n variables: in none a number, in one more the list of the coefficients of its powers
abbrev pub Polynomial : ℕ → Type 0
Polynomial zero = ℕ
Polynomial (suc n) = List (Polynomial n)

unfoldable pub sum_lists : {A : Type 0} → (A → A → A) → List A → List A → List A
sum_lists add [] q = q
sum_lists add (a ∷ p) [] = a ∷ p
sum_lists add (a ∷ p) (b ∷ q) = add a b ∷ sum_lists add p q

unfoldable pub each : {A : Type 0} → (A → A) → List A → List A
each f [] = []
each f (a ∷ p) = f a ∷ each f p

unfoldable pub product_lists : {A : Type 0} → (A → A → A) → (A → A → A) → A → List A → List A → List A
product_lists add multiply none [] q = []
product_lists add multiply none (a ∷ p) q =
    sum_lists add (each (multiply a) q) (none ∷ product_lists add multiply none p q)

unfoldable pub no_polynomial : (n : ℕ) → Polynomial n
no_polynomial zero = 0
no_polynomial (suc n) = []

unfoldable pub constant_polynomial : (n : ℕ) → ℕ → Polynomial n
constant_polynomial zero c = c
constant_polynomial (suc n) c = constant_polynomial n c ∷ []

unfoldable pub variable_polynomial : (n : ℕ) → ℕ → Polynomial n
variable_polynomial zero i = 0
variable_polynomial (suc n) i =
    if nat_eq i n then no_polynomial n ∷ constant_polynomial n 1 ∷ [] else variable_polynomial n i ∷ []

unfoldable pub add : (n : ℕ) → Polynomial n → Polynomial n → Polynomial n
add zero a b = a + b
add (suc n) p q = sum_lists (add n) p q

unfoldable pub multiply : (n : ℕ) → Polynomial n → Polynomial n → Polynomial n
multiply zero a b = a * b
multiply (suc n) p q = product_lists (add n) (multiply n) (no_polynomial n) p q

-- the polynomial in n variables that an expression is, where m - 1 stands for -1
unfoldable pub polynomial : (n m : ℕ) → Expression → Polynomial n
polynomial n m (variable i) = variable_polynomial n i
polynomial n m (constant c) = constant_polynomial n c
polynomial n m (sum a b) = add n (polynomial n m a) (polynomial n m b)
polynomial n m (product a b) = multiply n (polynomial n m a) (polynomial n m b)
polynomial n m (difference a b) =
    add n (polynomial n m a) (multiply n (constant_polynomial n (m - 1)) (polynomial n m b))

-- the value of a polynomial at n numbers
unfoldable pub at_list : {A : Type 0} → (A → ℕ) → ℕ → List A → ℕ
at_list f x [] = 0
at_list f x (a ∷ p) = f a + x * at_list f x p

unfoldable pub at : (n : ℕ) → (ℕ → ℕ) → Polynomial n → ℕ
at zero numbers c = c
at (suc n) numbers p = at_list (at n numbers) (numbers n) p
