-- What holds of each number below a bound holds of all of them.
use Rattle.std.proofs.Common.{◌≡◌, ℕ, zero, suc, ◌+◌, ◌*◌, ◌/◌, ◌%◌, ◌<◌, subst, arith}

below_two : (P : ℕ → Type 0) → P 0 → P 1 → (k : ℕ) → k < 2 → P k
below_two P p0 p1 zero h = p0
below_two P p0 p1 (suc zero) h = p1
below_two P p0 p1 (suc (suc k)) h = absurd (omega arith)

pub below_four : (P : ℕ → Type 0) → P 0 → P 1 → P 2 → P 3 → (k : ℕ) → k < 4 → P k
below_four P p0 p1 p2 p3 zero h = p0
below_four P p0 p1 p2 p3 (suc zero) h = p1
below_four P p0 p1 p2 p3 (suc (suc zero)) h = p2
below_four P p0 p1 p2 p3 (suc (suc (suc zero))) h = p3
below_four P p0 p1 p2 p3 (suc (suc (suc (suc k)))) h = absurd (omega arith)

pub below_eight : (P : ℕ → Type 0) → P 0 → P 1 → P 2 → P 3 → P 4 → P 5 → P 6 → P 7 → (k : ℕ) → k < 8 → P k
below_eight P a0 a1 a2 a3 b0 b1 b2 b3 k h =
    let place : 4 * (k / 4) + k % 4 ≡ k = omega arith in
    subst P place (below_two (λ row. (column : ℕ) → column < 4 → P (4 * row + column))
    (below_four _ a0 a1 a2 a3) (below_four _ b0 b1 b2 b3) (k / 4) (omega arith) (k % 4) (omega arith))

pub below_sixteen : (P : ℕ → Type 0) → P 0 → P 1 → P 2 → P 3 → P 4 → P 5 → P 6 → P 7
    → P 8 → P 9 → P 10 → P 11 → P 12 → P 13 → P 14 → P 15 → (k : ℕ) → k < 16 → P k
below_sixteen P a0 a1 a2 a3 b0 b1 b2 b3 c0 c1 c2 c3 d0 d1 d2 d3 k h =
    let place : 4 * (k / 4) + k % 4 ≡ k = omega arith in
    subst P place (below_four (λ row. (column : ℕ) → column < 4 → P (4 * row + column))
    (below_four _ a0 a1 a2 a3) (below_four _ b0 b1 b2 b3) (below_four _ c0 c1 c2 c3) (below_four _ d0 d1 d2 d3)
    (k / 4) (omega arith) (k % 4) (omega arith))
