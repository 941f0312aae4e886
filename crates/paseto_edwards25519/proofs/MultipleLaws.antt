-- Multiples of a point of edwards25519.
use Rattle.std.proofs.Common.{◌≡◌, ℕ, ◌+◌, ◌-◌, ◌*◌, ◌/◌, ◌<◌, ◌≤◌, inl, inr, refl, sym, ◌∙◌, ap, ap₂, arith}
use Rattle.std.proofs.lemmas.Bool.{cases_lt, le-ltb, lt-ltb}
use Rattle.paseto_edwards_laws.specs.Group.{Affine, neutral}
use Rattle.paseto_edwards_laws.proofs.CurveLaws.{base-point}
use Rattle.paseto_edwards25519.specs.Curve.{IsPoint, multiple, opposite, sum}
use Rattle.paseto_edwards25519.specs.Windows.{signed_multiple}
use Rattle.paseto_edwards_laws.specs.Edwards25519.{base}
use Rattle.paseto_edwards25519.proofs.CurveLaws.{associative, exchanged, multiple-add, multiple-is_point, multiple-none, multiple-of_multiple, multiple-of_neutral, multiple-of_opposite, multiple-of_sum, neutral-right, neutral-twice, opposite-is_point, sum-is_point, sum-with_opposite}

-- the double of a multiple
pub multiple-twice : (n : ℕ) (a q r : Affine) → IsPoint a → r ≡ sum q q → q ≡ multiple n a → r ≡ multiple (2 * n) a
multiple-twice n a q r point r_is q_is =
    let twice : n + n ≡ 2 * n = omega arith in
    r_is ∙ ap₂ (λ b c. sum b c) q_is q_is ∙ multiple-add n n a point ∙ ap (λ k. multiple k a) twice

pub multiple-next : (m n : ℕ) (a p q r : Affine) → IsPoint a → r ≡ sum p q → p ≡ multiple m a → q ≡ multiple n a
    → r ≡ multiple (m + n) a
multiple-next m n a p q r point r_is p_is q_is =
    r_is ∙ ap₂ (λ b c. sum b c) p_is q_is ∙ multiple-add m n a point

-- sixteen times a multiple
pub multiple-sixteen : (n : ℕ) (a p q : Affine) → IsPoint a → q ≡ multiple 16 p → p ≡ multiple n a → q ≡ multiple (16 * n) a
multiple-sixteen n a p q point q_is p_is = q_is ∙ ap (λ b. multiple 16 b) p_is ∙ multiple-of_multiple 16 n a point

-- ---- multiples that digits stand for

pub signed-plain : (digit : ℕ) (a : Affine) → digit < 16 → signed_multiple digit a ≡ multiple digit a
unfolding signed_multiple
signed-plain digit a below = rw (lt-ltb digit 16 below) refl

pub signed-opposite : (digit : ℕ) (a : Affine) → 16 ≤ digit → signed_multiple digit a ≡ multiple (32 - digit) (opposite a)
unfolding signed_multiple
signed-opposite digit a above = rw (le-ltb digit 16 above) refl

-- of the sixteen odd digits the upper eight stand for the opposites of what the lower stand for
pub signed-from_opposite : (j : ℕ) (a q : Affine) → IsPoint a → 8 ≤ j → j < 16 → q ≡ opposite (multiple (2 * (15 - j) + 1) a)
    → q ≡ signed_multiple (2 * j + 1) a
signed-from_opposite j a q point above below q_is =
    let same : 2 * (15 - j) + 1 ≡ 32 - (2 * j + 1) = omega arith in
    q_is ∙ sym (multiple-of_opposite (2 * (15 - j) + 1) a point) ∙ ap (λ k. multiple k (opposite a)) same
    ∙ sym (signed-opposite (2 * j + 1) a (omega arith))

signed-is_point : (digit : ℕ) (a : Affine) → IsPoint a → IsPoint (signed_multiple digit a)
signed-is_point digit a point = elim (cases_lt digit 16) [
  | inl below ↦ rw (signed-plain digit a below) (multiple-is_point digit a point)
  | inr above ↦ rw (signed-opposite digit a above) (multiple-is_point (32 - digit) (opposite a) (opposite-is_point a point))
]

pub sum-with_none : (a b : Affine) → IsPoint a → sum a (signed_multiple 0 b) ≡ a
sum-with_none a b point = ap (λ c. sum a c) (signed-plain 0 b (omega arith) ∙ multiple-none b) ∙ neutral-right a point

-- a multiple of the opposite takes as many away
taken-away : (m n : ℕ) (a : Affine) → IsPoint a → sum (multiple (m + n) a) (multiple n (opposite a)) ≡ multiple m a
taken-away m n a point =
    let o_is = opposite-is_point a point in
    let m_is = multiple-is_point m a point in
    ap (λ b. sum b (multiple n (opposite a))) (sym (multiple-add m n a point))
    ∙ associative (multiple m a) (multiple n a) (multiple n (opposite a)) m_is (multiple-is_point n a point) (multiple-is_point n (opposite a) o_is)
    ∙ ap (λ b. sum (multiple m a) b)
    (sym (multiple-of_sum n a (opposite a) point o_is) ∙ ap (λ b. multiple n b) (sum-with_opposite a point) ∙ multiple-of_neutral n)
    ∙ neutral-right (multiple m a) m_is

signed-next : (m n digit : ℕ) (a : Affine) → IsPoint a → digit < 32 → 2 * m + digit ≡ n + 32 * (digit / 16)
    → sum (multiple (2 * m) a) (signed_multiple digit a) ≡ multiple n a
signed-next m n digit a point bound e = elim (cases_lt digit 16) [
  | inl below ↦
      let whole : 2 * m + digit ≡ n = omega (arith, e) in
      ap (λ b. sum (multiple (2 * m) a) b) (signed-plain digit a below) ∙ multiple-add (2 * m) digit a point ∙ ap (λ k. multiple k a) whole
  | inr above ↦
      let whole : 2 * m ≡ n + (32 - digit) = omega (arith, e) in
      ap₂ (λ k b. sum (multiple k a) b) whole (signed-opposite digit a above) ∙ taken-away n (32 - digit) a point
]

-- a sum of multiples of the base point and of another, with one digit more of each number
pub joint-next : (m l i j n o : ℕ) (a p q r : Affine) → IsPoint a → q ≡ sum p p → p ≡ sum (multiple m base) (multiple l a)
    → r ≡ sum (sum q (signed_multiple i base)) (signed_multiple j a) → i < 32 → j < 32
    → 2 * m + i ≡ n + 32 * (i / 16) → 2 * l + j ≡ o + 32 * (j / 16)
    → r ≡ sum (multiple n base) (multiple o a)
joint-next m l i j n o a p q r point q_is p_is r_is i_low j_low n_is o_is =
    let m_is = multiple-is_point m base base-point in
    let l_is = multiple-is_point l a point in
    let x_is = multiple-is_point (2 * m) base base-point in
    let y_is = multiple-is_point (2 * l) a point in
    let b_is = signed-is_point i base base-point in
    let c_is = signed-is_point j a point in
    let first : m + m ≡ 2 * m = omega arith in
    let second : l + l ≡ 2 * l = omega arith in
    let whole : q ≡ sum (multiple (2 * m) base) (multiple (2 * l) a) =
    q_is ∙ ap₂ (λ b c. sum b c) p_is p_is
    ∙ exchanged (multiple m base) (multiple l a) (multiple m base) (multiple l a) m_is l_is m_is l_is
    ∙ ap₂ (λ b c. sum b c) (multiple-add m m base base-point) (multiple-add l l a point)
    ∙ ap₂ (λ b c. sum (multiple b base) (multiple c a)) first second in
    r_is ∙ ap (λ b. sum (sum b (signed_multiple i base)) (signed_multiple j a)) whole
    ∙ associative (sum (multiple (2 * m) base) (multiple (2 * l) a)) (signed_multiple i base) (signed_multiple j a)
    (sum-is_point (multiple (2 * m) base) (multiple (2 * l) a) x_is y_is) b_is c_is
    ∙ exchanged (multiple (2 * m) base) (multiple (2 * l) a) (signed_multiple i base) (signed_multiple j a) x_is y_is b_is c_is
    ∙ ap₂ (λ b c. sum b c) (signed-next m n i base base-point i_low n_is) (signed-next l o j a point j_low o_is)

pub joint-none : (m l : ℕ) (a : Affine) → m ≡ 0 → l ≡ 0 → neutral ≡ sum (multiple m base) (multiple l a)
joint-none m l a m_none l_none =
    sym (ap₂ (λ b c. sum (multiple b base) (multiple c a)) m_none l_none
    ∙ ap₂ (λ b c. sum b c) (multiple-none base) (multiple-none a) ∙ neutral-twice)
