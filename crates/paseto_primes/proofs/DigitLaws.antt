-- The digits of a number to the base 16.
use Rattle.std.proofs.Common.{◌≡◌, ℕ, zero, suc, ◌+◌, ◌-◌, ◌*◌, ◌/◌, ◌%◌, ◌^◌, ◌<◌, refl, sym, ◌∙◌, ap, arith, pow-add, pow-suc, mod-eq_of_lt}
use Rattle.std.proofs.Math.Nat.{div-div-eq-div-mul}
use Rattle.std.proofs.lemmas.Nat.{mod-pow-add}
use Rattle.paseto_primes.specs.Digits.{digit, row_sum, turn_sum}

pub power-of_two : (k : ℕ) → 2 ^ (4 * k) ≡ 16 ^ k
power-of_two zero = refl
power-of_two (suc k) =
    let shifted : 4 * suc k ≡ 4 + 4 * k = omega arith in
    ap (λ n. 2 ^ n) shifted ∙ pow-add 2 4 (4 * k) ∙ ap (λ n. 16 * n) (power-of_two k) ∙ omega (arith, pow-suc 16 k)

-- a number without its lowest digits, with one digit more
pub digit-step : (n k : ℕ) → 16 * (n / 16 ^ suc k) + digit n k ≡ n / 16 ^ k
digit-step n k =
    let more : 16 ^ suc k ≡ 16 ^ k * 16 = omega (arith, pow-suc 16 k) in
    let parts : n / 16 ^ suc k ≡ n / 16 ^ k / 16 =
    ap (λ m. n / m) more ∙ sym (div-div-eq-div-mul n (16 ^ k) 16) in
    omega (arith, parts)

-- a digit of what stands above the lowest digits
digit-above : (n i k : ℕ) → digit n (i + k) ≡ digit (n / 16 ^ i) k
digit-above n i k =
    ap (λ m. n / m % 16) (pow-add 16 i k) ∙ ap (λ m. m % 16) (sym (div-div-eq-div-mul n (16 ^ i) (16 ^ k)))

four_digits : (m : ℕ) → digit m 0 + 16 * digit m 1 + 256 * digit m 2 + 4096 * digit m 3 ≡ m % 2 ^ 16
four_digits m = omega arith

next_word : (n m : ℕ) → n % 2 ^ (16 * suc m) ≡ (n / 2 ^ (16 * m) % 2 ^ 16) * 2 ^ (16 * m) + n % 2 ^ (16 * m)
next_word n m =
    let shifted : 16 * suc m ≡ 16 + 16 * m = omega arith in
    ap (λ k. n % 2 ^ k) shifted ∙ mod-pow-add n 16 (16 * m)

joined : (p a0 a1 a2 a3 d0 d1 d2 d3 w l : ℕ) → d0 + 16 * d1 + 256 * d2 + 4096 * d3 ≡ w
    → a0 + 16 * a1 + 256 * a2 + 4096 * a3 ≡ l
    → a0 + d0 * p + 16 * (a1 + d1 * p) + 256 * (a2 + d2 * p) + 4096 * (a3 + d3 * p) ≡ w * p + l
joined p a0 a1 a2 a3 d0 d1 d2 d3 w l e f =
    let product : (d0 + 16 * d1 + 256 * d2 + 4096 * d3) * p ≡ w * p = ap (λ n. n * p) e in
    omega (arith, product)

-- the turns of the m lowest words are these words
rows_number : (n m : ℕ)
    → row_sum n 0 m + 16 * row_sum n 1 m + 256 * row_sum n 2 m + 4096 * row_sum n 3 m ≡ n % 2 ^ (16 * m)
unfolding row_sum
rows_number n zero = omega arith
rows_number n (suc m) =
    let w : ℕ = n / 2 ^ (16 * m) in
    let power : 16 ^ (4 * m) ≡ 2 ^ (16 * m) = sym (power-of_two (4 * m)) ∙ ap (λ k. 2 ^ k) (omega arith) in
    let at : (k : ℕ) → digit n (4 * m + k) ≡ digit w k = λ k. digit-above n (4 * m) k ∙ ap (λ p. digit (n / p) k) power in
    let word : digit n (4 * m + 0) + 16 * digit n (4 * m + 1) + 256 * digit n (4 * m + 2) + 4096 * digit n (4 * m + 3) ≡ w % 2 ^ 16 =
    omega (arith, at 0, at 1, at 2, at 3, four_digits w) in
    joined (2 ^ (16 * m)) (row_sum n 0 m) (row_sum n 1 m) (row_sum n 2 m) (row_sum n 3 m) _ _ _ _ (w % 2 ^ 16) (n % 2 ^ (16 * m))
    word (rows_number n m) ∙ sym (next_word n m)

turns_sum : (n m : ℕ) → turn_sum n m 4 ≡ row_sum n 0 m + 16 * row_sum n 1 m + 256 * row_sum n 2 m + 4096 * row_sum n 3 m
unfolding turn_sum
turns_sum n m = omega arith

-- four turns over all words of a number are the number
pub turns_number : (n m : ℕ) → n < 2 ^ (16 * m) → turn_sum n m 4 ≡ n
turns_number n m low = turns_sum n m ∙ rows_number n m ∙ mod-eq_of_lt low

pub row-none : (n m turn : ℕ) → n ≡ n + row_sum m turn 0
unfolding row_sum
row-none n m turn = omega arith

pub row-more : (n m turn i : ℕ) → n + row_sum m turn i + digit m (4 * i + turn) * 2 ^ (16 * i) ≡ n + row_sum m turn (suc i)
unfolding row_sum
row-more n m turn i = omega arith

pub turn-first : (n m : ℕ) → 0 + row_sum n 3 m ≡ turn_sum n m 1
unfolding turn_sum
turn-first n m = omega arith

pub turn-more : (n m i : ℕ) → 16 * turn_sum n m i + row_sum n (3 - i) m ≡ turn_sum n m (suc i)
unfolding turn_sum
turn-more n m i = refl
