-- The digits of a number to the base 16.
use Rattle.std.proofs.Common.{◌≡◌, ℕ, zero, suc, ◌+◌, ◌-◌, ◌*◌, ◌/◌, ◌%◌, ◌^◌, ◌<◌, ◌≤◌, refl, sym, ◌∙◌, ap, arith, lit<, pow-add, pow-suc, mod-eq_of_lt}
use Rattle.std.proofs.Math.Nat.{add-mul-div_right, div-div-eq-div-mul}
use Rattle.std.proofs.lemmas.Nat.{mod-pow-add}
use Rattle.paseto_edwards25519.specs.Digits.{digit, row_sum, turn_sum}

pub power-of_two : (k : ℕ) → 2 ^ (4 * k) ≡ 16 ^ k
power-of_two zero = refl
power-of_two (suc k) =
    let shifted : 4 * suc k ≡ 4 + 4 * k = omega arith in
    ap (λ n. 2 ^ n) shifted ∙ pow-add 2 4 (4 * k) ∙ ap (λ n. 16 * n) (power-of_two k) ∙ omega (arith, pow-suc 16 k)

power-positive : (k : ℕ) → 0 < 16 ^ k
power-positive zero = lit< tt
power-positive (suc k) = omega (arith, pow-suc 16 k, power-positive k)

-- a digit of the lower half
pub digit-low : (low high k : ℕ) → k < 32 → low / 2 ^ (4 * k) % 16 ≡ digit (low + 2 ^ 128 * high) k
digit-low low high k below =
    let r : ℕ = 16 ^ (31 - k) in
    let all : 32 ≡ suc (31 - k) + k = omega arith in
    let whole : 16 ^ 32 ≡ 16 ^ (suc (31 - k) + k) = ap (λ n. 16 ^ n) all in
    let parts : 16 ^ (suc (31 - k) + k) ≡ 16 ^ suc (31 - k) * 16 ^ k = pow-add 16 (suc (31 - k)) k in
    let more : 16 ^ suc (31 - k) ≡ 16 * r = omega (arith, pow-suc 16 (31 - k)) in
    let spread : 2 ^ 128 * high ≡ 16 * (r * high) * 16 ^ k =
    ap (λ n. n * high) (whole ∙ parts ∙ ap (λ n. n * 16 ^ k) more) ∙ turned r high (16 ^ k) in
    let divided : (low + 16 * (r * high) * 16 ^ k) / 16 ^ k ≡ low / 16 ^ k + 16 * (r * high) =
    add-mul-div_right low (16 * (r * high)) (power-positive k) in
    ap (λ n. low / n % 16) (power-of_two k)
    ∙ sym (ap (λ n. (low + n) / 16 ^ k % 16) spread ∙ ap (λ n. n % 16) divided ∙ dropped (low / 16 ^ k) (r * high))
  where
    turned : (r h p : ℕ) → 16 * r * p * h ≡ 16 * (r * h) * p
    turned r h p = omega arith

    dropped : (a b : ℕ) → (a + 16 * b) % 16 ≡ a % 16
    dropped a b = omega arith

-- a digit of the upper half
pub digit-high : (low high k : ℕ) → low < 2 ^ 128 → 32 ≤ k → high / 2 ^ (4 * (k - 32)) % 16 ≡ digit (low + 2 ^ 128 * high) k
digit-high low high k bound above =
    let whole : k ≡ 32 + (k - 32) = omega arith in
    let parts : 16 ^ k ≡ 2 ^ 128 * 16 ^ (k - 32) = ap (λ n. 16 ^ n) whole ∙ pow-add 16 32 (k - 32) in
    let upper : (low + 2 ^ 128 * high) / 2 ^ 128 ≡ high = omega arith in
    ap (λ n. high / n % 16) (power-of_two (k - 32))
    ∙ sym (ap (λ n. (low + 2 ^ 128 * high) / n % 16) parts
    ∙ ap (λ n. n % 16) (sym (div-div-eq-div-mul (low + 2 ^ 128 * high) (2 ^ 128) (16 ^ (k - 32))))
    ∙ ap (λ n. n / 16 ^ (k - 32) % 16) upper)

-- a digit of what stands above the lowest digits
digit-above : (n i k : ℕ) → digit n (i + k) ≡ digit (n / 16 ^ i) k
digit-above n i k =
    ap (λ m. n / m % 16) (pow-add 16 i k) ∙ ap (λ m. m % 16) (sym (div-div-eq-div-mul n (16 ^ i) (16 ^ k)))

four_digits : (m : ℕ) → digit m 0 + 16 * digit m 1 + 256 * digit m 2 + 4096 * digit m 3 ≡ m % 2 ^ 16
four_digits m = omega arith

next_word : (n m : ℕ) → n % 2 ^ (16 * suc m) ≡ (n / 2 ^ (16 * m) % 2 ^ 16) * 2 ^ (16 * m) + n % 2 ^ (16 * m)
next_word n m =
    let shifted : 16 * suc m ≡ 16 + 16 * m = omega arith in
    ap (λ k. n % 2 ^ k) shifted ∙ mod-pow-add n 16 (16 * m)

joined : (p a0 a1 a2 a3 d0 d1 d2 d3 w l : ℕ) → d0 + 16 * d1 + 256 * d2 + 4096 * d3 ≡ w
    → a0 + 16 * a1 + 256 * a2 + 4096 * a3 ≡ l
    → a0 + d0 * p + 16 * (a1 + d1 * p) + 256 * (a2 + d2 * p) + 4096 * (a3 + d3 * p) ≡ w * p + l
joined p a0 a1 a2 a3 d0 d1 d2 d3 w l e f =
    let product : (d0 + 16 * d1 + 256 * d2 + 4096 * d3) * p ≡ w * p = ap (λ n. n * p) e in
    omega (arith, product)

-- the turns of the first m rows are the number's m lowest words of 16 bits
rows_number : (n m : ℕ)
    → row_sum n 0 m + 16 * row_sum n 1 m + 256 * row_sum n 2 m + 4096 * row_sum n 3 m ≡ n % 2 ^ (16 * m)
unfolding row_sum
rows_number n zero = omega arith
rows_number n (suc m) =
    let w : ℕ = n / 2 ^ (16 * m) in
    let power : 16 ^ (4 * m) ≡ 2 ^ (16 * m) = sym (power-of_two (4 * m)) ∙ ap (λ k. 2 ^ k) (omega arith) in
    let at : (k : ℕ) → digit n (4 * m + k) ≡ digit w k = λ k. digit-above n (4 * m) k ∙ ap (λ p. digit (n / p) k) power in
    let word : digit n (4 * m + 0) + 16 * digit n (4 * m + 1) + 256 * digit n (4 * m + 2) + 4096 * digit n (4 * m + 3) ≡ w % 2 ^ 16 =
    omega (arith, at 0, at 1, at 2, at 3, four_digits w) in
    joined (2 ^ (16 * m)) (row_sum n 0 m) (row_sum n 1 m) (row_sum n 2 m) (row_sum n 3 m) _ _ _ _ (w % 2 ^ 16) (n % 2 ^ (16 * m))
    word (rows_number n m) ∙ sym (next_word n m)

turns_sum : (n : ℕ)
    → turn_sum n 4 ≡ row_sum n 0 16 + 16 * row_sum n 1 16 + 256 * row_sum n 2 16 + 4096 * row_sum n 3 16
unfolding turn_sum
turns_sum n = omega arith

-- and those of all rows, turn by turn, the number
pub turns_number : (n : ℕ) → n < 2 ^ 256 → turn_sum n 4 ≡ n
turns_number n low = turns_sum n ∙ rows_number n 16 ∙ mod-eq_of_lt low

pub row-none : (n m turn : ℕ) → n ≡ n + row_sum m turn 0
unfolding row_sum
row-none n m turn = omega arith

pub row-more : (n m turn i : ℕ) → n + row_sum m turn i + digit m (4 * i + turn) * 2 ^ (16 * i) ≡ n + row_sum m turn (suc i)
unfolding row_sum
row-more n m turn i = omega arith

pub turn-first : (n : ℕ) → 0 + row_sum n 3 16 ≡ turn_sum n 1
unfolding turn_sum
turn-first n = omega arith

pub turn-more : (n i : ℕ) → 16 * turn_sum n i + row_sum n (3 - i) 16 ≡ turn_sum n (suc i)
unfolding turn_sum
turn-more n i = refl
