-- The steps of the Montgomery ladder, and bits of a number.
use Rattle.std.proofs.Common.{◌≡◌, ℕ, zero, suc, ◌+◌, ◌-◌, ◌*◌, ◌/◌, ◌%◌, ◌^◌, ◌<◌, ◌≤◌, refl, sym, ◌∙◌, ap, arith, pow-add, pow-suc}
use Rattle.std.proofs.Math.Nat.{add-mul-div_right, div-div-eq-div-mul}
use Rattle.paseto_edwards25519.specs.Field.{minus, plus, times}
use Rattle.paseto_x25519.specs.Ladder.{Numbers, a24, start, stepped, swapped, turned, turns}

-- what is chosen for each number
pub swapped-is : (choice : ℕ) (n : Numbers) (a b c e : ℕ) → choice < 2
    → (choice ≡ 1 → a ≡ n.x3) → (choice ≡ 0 → a ≡ n.x2) → (choice ≡ 1 → b ≡ n.z3) → (choice ≡ 0 → b ≡ n.z2)
    → (choice ≡ 1 → c ≡ n.x2) → (choice ≡ 0 → c ≡ n.x3) → (choice ≡ 1 → e ≡ n.z2) → (choice ≡ 0 → e ≡ n.z3)
    → record { x2 = a; z2 = b; x3 = c; z3 = e; swap = n.swap } ≡ swapped choice n
unfolding swapped
swapped-is zero n a b c e below a1 a0 b1 b0 c1 c0 e1 e0 = rw (a0 refl, b0 refl, c0 refl, e0 refl) refl
swapped-is (suc zero) n a b c e below a1 a0 b1 b0 c1 c0 e1 e0 = rw (a1 refl, b1 refl, c1 refl, e1 refl) refl
swapped-is (suc (suc k)) n a b c e below a1 a0 b1 b0 c1 c0 e1 e0 = absurd (let f : suc (suc k) < 2 = below in omega (arith, f))

-- what a step computes, line by line
pub stepped-is : (x1 bit : ℕ) (n : Numbers) (a aa b bb e c dd da cb s t tt p q r2 w2 r3 w3 : ℕ)
    → a ≡ plus n.x2 n.z2 → aa ≡ times a a → b ≡ minus n.x2 n.z2 → bb ≡ times b b → e ≡ minus aa bb
    → dd ≡ minus n.x3 n.z3 → da ≡ times dd a → c ≡ plus n.x3 n.z3 → cb ≡ times c b
    → r2 ≡ times aa bb → p ≡ times a24 e → q ≡ plus aa p → w2 ≡ times e q
    → s ≡ plus da cb → r3 ≡ times s s → t ≡ minus da cb → tt ≡ times t t → w3 ≡ times x1 tt
    → record { x2 = r2; z2 = w2; x3 = r3; z3 = w3; swap = bit } ≡ stepped x1 bit n
unfolding stepped
stepped-is x1 bit n a aa b bb e c dd da cb s t tt p q r2 w2 r3 w3 a_is aa_is b_is bb_is e_is dd_is da_is c_is cb_is r2_is p_is q_is w2_is s_is r3_is t_is tt_is w3_is =
    cc (a_is, aa_is, b_is, bb_is, e_is, dd_is, da_is, c_is, cb_is, r2_is, p_is, q_is, w2_is, s_is, r3_is, t_is, tt_is, w3_is)

pub turns-first : (k x1 : ℕ) → start x1 ≡ turns k x1 0
unfolding turns
turns-first k x1 = refl

pub turns-next : (k x1 t : ℕ) → turned x1 (k / 2 ^ (254 - t) % 2) (turns k x1 t) ≡ turns k x1 (suc t)
unfolding turns
turns-next k x1 t = refl

power-positive : (k : ℕ) → 0 < 2 ^ k
power-positive zero = omega arith
power-positive (suc k) = omega (arith, pow-suc 2 k, power-positive k)

-- a bit of the lower half
pub bit-low : (low high at : ℕ) → at < 128 → low / 2 ^ at % 2 ≡ (low + 2 ^ 128 * high) / 2 ^ at % 2
bit-low low high at below =
    let r : ℕ = 2 ^ (127 - at) in
    let all : 128 ≡ suc (127 - at) + at = omega arith in
    let whole : 2 ^ 128 ≡ 2 ^ (suc (127 - at) + at) = ap (λ n. 2 ^ n) all in
    let parts : 2 ^ (suc (127 - at) + at) ≡ 2 ^ suc (127 - at) * 2 ^ at = pow-add 2 (suc (127 - at)) at in
    let more : 2 ^ suc (127 - at) ≡ 2 * r = omega (arith, pow-suc 2 (127 - at)) in
    let spread : 2 ^ 128 * high ≡ 2 * (r * high) * 2 ^ at =
    ap (λ n. n * high) (whole ∙ parts ∙ ap (λ n. n * 2 ^ at) more) ∙ moved r high (2 ^ at) in
    let divided : (low + 2 * (r * high) * 2 ^ at) / 2 ^ at ≡ low / 2 ^ at + 2 * (r * high) =
    add-mul-div_right low (2 * (r * high)) (power-positive at) in
    sym (ap (λ n. (low + n) / 2 ^ at % 2) spread ∙ ap (λ n. n % 2) divided ∙ dropped (low / 2 ^ at) (r * high))
  where
    moved : (r h p : ℕ) → 2 * r * p * h ≡ 2 * (r * h) * p
    moved r h p = omega arith

    dropped : (a b : ℕ) → (a + 2 * b) % 2 ≡ a % 2
    dropped a b = omega arith

-- a bit of the upper half
pub bit-high : (low high at : ℕ) → low < 2 ^ 128 → 128 ≤ at → high / 2 ^ (at - 128) % 2 ≡ (low + 2 ^ 128 * high) / 2 ^ at % 2
bit-high low high at bound above =
    let whole : at ≡ 128 + (at - 128) = omega arith in
    let parts : 2 ^ at ≡ 2 ^ 128 * 2 ^ (at - 128) = ap (λ n. 2 ^ n) whole ∙ pow-add 2 128 (at - 128) in
    let upper : (low + 2 ^ 128 * high) / 2 ^ 128 ≡ high = omega arith in
    sym (ap (λ n. (low + 2 ^ 128 * high) / n % 2) parts
    ∙ ap (λ n. n % 2) (sym (div-div-eq-div-mul (low + 2 ^ 128 * high) (2 ^ 128) (2 ^ (at - 128))))
    ∙ ap (λ n. n / 2 ^ (at - 128) % 2) upper)

-- the halves of a number, of which the highest bit is not read
pub masked-is : (low high n : ℕ) → low < 2 ^ 128 → low + 2 ^ 128 * high ≡ n → low + 2 ^ 128 * (high % 2 ^ 127) ≡ n % 2 ^ 255
masked-is low high n bound e = omega (arith, e)
