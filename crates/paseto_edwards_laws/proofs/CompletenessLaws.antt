-- No sum of two points of a complete curve has a zero denominator (Bernstein and Lange, "Faster addition and doubling on
-- elliptic curves", ASIACRYPT 2007, theorem 3.3).
use Rattle.std.proofs.Common.{◌≡◌, ℕ, ◌+◌, ◌-◌, ◌*◌, ◌%◌, ◌<◌, ◌≢◌, refl, sym, ◌∙◌, ap, arith, mod-eq_of_lt, mod-lt, suc-ne-zero}
use Rattle.std.proofs.Math.Nat.{mod-mod, mod_self, zero-mod}
use Rattle.paseto_primes.specs.Prime.{IsPrime}
use Rattle.paseto_primes.specs.Root.{IsNonresidue}
use Rattle.paseto_primes.proofs.DivisorLaws.{multiple-times, times-multiple, without}
use Rattle.paseto_primes.proofs.CongruenceLaws.{cancel-plus, one-not_zero, other, product-not_zero, same-plus, same-times}
use Rattle.paseto_primes.proofs.FermatLaws.{above-one}
use Rattle.paseto_edwards_laws.specs.Group.{IsComplete, IsOn}

-- (i * x + e * y) ^ 2 at a point, where i ^ 2 = -1 and e ^ 2 = 1
square-at : (p i d x y e : ℕ) → (i * i + 1) % p ≡ 0 → (e * e) % p ≡ 1 % p → (y * y) % p ≡ (1 + x * x + d * (x * x * (y * y))) % p
    → ((i * x + e * y) * (i * x + e * y)) % p ≡ (1 + d * (x * x * (y * y)) + 2 * (i * e * (x * y))) % p
square-at p i d x y e root unit on =
    let k : ℕ = 2 * (i * e * (x * y)) in
    let c : ℕ = d * (x * x * (y * y)) in
    let apart : x * x + (i * x + e * y) * (i * x + e * y) ≡ (i * i + 1) * (x * x) + (k + e * e * (y * y)) = omega arith in
    let one : 1 * (y * y) ≡ y * y = omega arith in
    let together : k + (1 + x * x + c) ≡ x * x + (1 + c + k) = omega arith in
    cancel-plus p (x * x) ((i * x + e * y) * (i * x + e * y)) (1 + c + k)
    (ap (λ w. w % p) apart ∙ without p ((i * i + 1) * (x * x)) (k + e * e * (y * y)) (multiple-times p (i * i + 1) (x * x) root)
    ∙ same-plus p k k (e * e * (y * y)) (1 + x * x + c) refl
    (same-times p (e * e) 1 (y * y) (y * y) unit refl ∙ ap (λ w. w % p) one ∙ on)
    ∙ ap (λ w. w % p) together)

-- what is 0 of two points whose product with d is its own inverse, as d is no square
half : (p i d x y v w e : ℕ) → (i * i + 1) % p ≡ 0 → IsNonresidue p d
    → (y * y) % p ≡ (1 + x * x + d * (x * x * (y * y))) % p → (w * w) % p ≡ (1 + v * v + d * (v * v * (w * w))) % p
    → e ≡ d * (x * v * (y * w)) → (e * e) % p ≡ 1 % p → (x * y * (i * v + 1 * w)) % p ≡ 0
half p i d x y v w e root apart on on' e_is unit =
    let a : ℕ = d * (x * x * (y * y)) in
    let s : ℕ = i * v + 1 * w in
    let first : ((i * x + e * y) * (i * x + e * y)) % p ≡ (1 + a + 2 * (i * e * (x * y))) % p = square-at p i d x y e root unit on in
    let second : (s * s) % p ≡ (1 + d * (v * v * (w * w)) + 2 * (i * 1 * (v * w))) % p = square-at p i d v w 1 root refl on' in
    let square_e : e * e ≡ d * (x * v * (y * w)) * (d * (x * v * (y * w))) = ap (λ k. k * k) e_is in
    let cross : i * e * (x * y) ≡ i * (d * (x * v * (y * w))) * (x * y) = ap (λ k. i * k * (x * y)) e_is in
    let product : a * (1 + d * (v * v * (w * w)) + 2 * (i * 1 * (v * w))) ≡ e * e + (a + 2 * (i * e * (x * y))) = omega arith in
    let one : 1 + (a + 2 * (i * e * (x * y))) ≡ 1 + a + 2 * (i * e * (x * y)) = omega arith in
    let whole : d * (x * y * s * (x * y * s)) ≡ a * (s * s) = omega arith in
    apart (i * x + e * y) (x * y * s)
    (first
    ∙ sym (ap (λ k. k % p) whole ∙ same-times p a a (s * s) (1 + d * (v * v * (w * w)) + 2 * (i * 1 * (v * w))) refl second
    ∙ ap (λ k. k % p) product
    ∙ same-plus p (e * e) 1 (a + 2 * (i * e * (x * y))) (a + 2 * (i * e * (x * y))) unit refl ∙ ap (λ k. k % p) one))

-- p - 1 is its own inverse
pub minus_one : (p : ℕ) → 1 < p → ((p - 1) * (p - 1)) % p ≡ 1 % p
minus_one p above =
    let m : ℕ = p - 1 in
    let next : m + 1 ≡ p = omega arith in
    let spread : m + m * m ≡ m * p = let e : m * (m + 1) ≡ m * p = ap (λ k. m * k) next in omega arith in
    cancel-plus p m (m * m) 1
    (ap (λ k. k % p) spread ∙ times-multiple p m p (mod_self p) ∙ sym (mod_self p) ∙ ap (λ k. k % p) (sym next))

-- a factor of what is its own inverse
no-zero_factor : (p c x e : ℕ) → 1 < p → e ≡ c * x → (e * e) % p ≡ 1 % p → x % p ≢ 0
no-zero_factor p c x e above e_is unit none =
    one-not_zero p above (sym unit ∙ multiple-times p e e (ap (λ k. k % p) e_is ∙ times-multiple p c x none))

-- d * x * v * y * w is neither 1 nor -1
pub complete : (p d : ℕ) → IsComplete p d → (x y v w : ℕ) → IsOn p d x y → IsOn p d v w
    → (d * (x * v * (y * w)) * (d * (x * v * (y * w)))) % p ≢ 1 % p
complete p d curve x y v w on on' unit =
    let prime : IsPrime p = curve.prime in
    let odd : 2 < p = curve.odd in
    let i : ℕ = curve.root in
    let root : (i * i + 1) % p ≡ 0 = curve.square in
    let apart : IsNonresidue p d = curve.nonresidue in
    let above : 1 < p = above-one p prime in
    let e : ℕ = d * (x * v * (y * w)) in
    let x_unit : x % p ≢ 0 = no-zero_factor p (d * (v * (y * w))) x e above (omega arith) unit in
    let y_unit : y % p ≢ 0 = no-zero_factor p (d * (x * v * w)) y e above (omega arith) unit in
    let v_unit : v % p ≢ 0 = no-zero_factor p (d * (x * (y * w))) v e above (omega arith) unit in
    let m : ℕ = p - 1 in
    let m_m : (m * m) % p ≡ 1 % p = minus_one p above in
    let m_unit : m % p ≢ 0 = no-zero_factor p 1 m m above (omega arith) m_m in
    let i_unit : i % p ≢ 0 = λ none. one-not_zero p above (sym (without p (i * i) 1 (multiple-times p i i none)) ∙ root) in
    let y_y : (m * y * (m * y)) % p ≡ (y * y) % p = turned p m y y m_m in
    let w_w : (m * w * (m * w)) % p ≡ (w * w) % p = turned p m w w m_m in
    let y_w : (m * y * (m * w)) % p ≡ (y * w) % p = turned p m y w m_m in
    let e' : ℕ = d * (x * v * (m * y * (m * w))) in
    let e_e' : e' % p ≡ e % p = same-times p d d (x * v * (m * y * (m * w))) (x * v * (y * w)) refl (same-times p (x * v) (x * v) (m * y * (m * w)) (y * w) refl y_w) in
    let first : (x * y * (i * v + 1 * w)) % p ≡ 0 = half p i d x y v w e root apart on on' refl unit in
    let second : (x * (m * y) * (i * v + 1 * (m * w))) % p ≡ 0 =
    half p i d x (m * y) v (m * w) e' root apart (on-turned p d x y m y_y on) (on-turned p d v w m w_w on') refl
    (same-times p e' e e' e e_e' e_e' ∙ unit) in
    let s : (i * v + 1 * w) % p ≡ 0 = other p (x * y) (i * v + 1 * w) prime (product-not_zero p x y prime x_unit y_unit) first in
    let t : (i * v + 1 * (m * w)) % p ≡ 0 =
    other p (x * (m * y)) (i * v + 1 * (m * w)) prime (product-not_zero p x (m * y) prime x_unit (product-not_zero p m y prime m_unit y_unit)) second in
    let next : m + 1 ≡ p = omega arith in
    let next_w : (m + 1) * w ≡ p * w = ap (λ k. k * w) next in
    let sum : p * w + 2 * (i * v) ≡ i * v + 1 * w + (i * v + 1 * (m * w)) = omega arith in
    let twice : (2 * (i * v)) % p ≡ 0 =
    sym (without p (p * w) (2 * (i * v)) (multiple-times p p w (mod_self p))) ∙ ap (λ k. k % p) sum
    ∙ without p (i * v + 1 * w) (i * v + 1 * (m * w)) s ∙ t in
    product-not_zero p 2 (i * v) prime (λ none. suc-ne-zero 1 (sym (mod-eq_of_lt odd) ∙ none)) (product-not_zero p i v prime i_unit v_unit) twice
  where
    turned : (p m a b : ℕ) → (m * m) % p ≡ 1 % p → (m * a * (m * b)) % p ≡ (a * b) % p
    turned p m a b e =
        let spread : m * a * (m * b) ≡ m * m * (a * b) = omega arith in
        let one : 1 * (a * b) ≡ a * b = omega arith in
        ap (λ k. k % p) spread ∙ same-times p (m * m) 1 (a * b) (a * b) e refl ∙ ap (λ k. k % p) one

    on-turned : (p d x y m : ℕ) → (m * y * (m * y)) % p ≡ (y * y) % p → (y * y) % p ≡ (1 + x * x + d * (x * x * (y * y))) % p
        → (m * y * (m * y)) % p ≡ (1 + x * x + d * (x * x * (m * y * (m * y)))) % p
    on-turned p d x y m e on =
        e ∙ on
        ∙ same-plus p (1 + x * x) (1 + x * x) (d * (x * x * (y * y))) (d * (x * x * (m * y * (m * y)))) refl
        (same-times p d d (x * x * (y * y)) (x * x * (m * y * (m * y))) refl
        (same-times p (x * x) (x * x) (y * y) (m * y * (m * y)) refl (sym e)))

-- the denominators of a sum
pub plus-denominator : (p e : ℕ) → (e * e) % p ≢ 1 % p → (1 + e) % p ≢ 0
plus-denominator p e apart none =
    let square : (1 + e) * (1 + e) ≡ 1 + 2 * e + e * e = omega arith in
    let twice : 2 * (1 + e) ≡ 1 + 2 * e + 1 = omega arith in
    apart (cancel-plus p (1 + 2 * e) (e * e) 1
    (ap (λ k. k % p) (sym square) ∙ times-multiple p (1 + e) (1 + e) none ∙ sym (times-multiple p 2 (1 + e) none) ∙ ap (λ k. k % p) twice))

pub minus-denominator : (p e : ℕ) → (e * e) % p ≢ 1 % p → 0 < p → (1 + (p - e % p)) % p ≢ 0
minus-denominator p e apart positive none =
    let low : e % p < p = mod-lt e positive in
    let back : e % p + (1 + (p - e % p)) ≡ p + 1 = omega arith in
    let e_is : e % p ≡ 1 % p =
    sym (mod-mod e p) ∙ ap (λ k. k % p) (sym (omega arith)) ∙ same-plus p (e % p) (e % p) 0 (1 + (p - e % p)) refl (zero-mod p ∙ sym none)
    ∙ ap (λ k. k % p) back ∙ without p p 1 (mod_self p) in
    apart (same-times p e 1 e 1 e_is e_is)
