-- How many octets the INTEGERs of a key have, and which.
use Rattle.std.proofs.Common.{◌≡◌, ℕ, zero, suc, ◌+◌, ◌-◌, ◌*◌, ◌/◌, ◌%◌, ◌^◌, ◌<◌, ◌≤◌, inl, inr, List, [], ◌∷◌, length, refl, sym, ◌∙◌, ap, ap₂, pow-suc, arith}
use Rattle.std.proofs.Math.Nat.{add-mul-div_right, add-mul-mod_self_right, mod-eq_of_lt, mul-le-mul_left, pow-le-pow_right}
use Rattle.std.proofs.lemmas.Bool.{cases_lt}
use Rattle.std.proofs.lemmas.Nat.{div-mul-add}
use Rattle.rusty_paseto_primitives.specs.Bytes.{IsBytes}
use Rattle.paseto_montgomery.specs.Octets.{i2osp, os2ip}
use Rattle.paseto_montgomery.proofs.OctetsLaws.{os2ip-below, os2ip-cons, power-positive}
use Rattle.paseto_rsa.specs.Integers.{IsShortest}
use Rattle.paseto_rsa.proofs.IntegerLaws.{least-front}

-- ---- the octets of a number

-- what is above the octets does not change them
i2osp-lower : (n t r : ℕ) → i2osp (t * 256 ^ n + r) n ≡ i2osp r n
unfolding i2osp
i2osp-lower zero t r = refl
i2osp-lower (suc n) t r =
    let power = ap (λ k. t * k) (pow-suc 256 n) in
    let whole : t * 256 ^ suc n + r ≡ t * 256 * 256 ^ n + r = omega (arith, power) in
    let turned : t * 256 * 256 ^ n + r ≡ r + t * 256 * 256 ^ n = omega arith in
    let digit = ap (λ k. k / 256 ^ n % 256) (whole ∙ turned) ∙ ap (λ k. k % 256) (add-mul-div_right r (t * 256) (power-positive n))
    ∙ add-mul-mod_self_right (r / 256 ^ n) t 256 in
    ap₂ (λ (d : ℕ) (l : List ℕ). d ∷ l) digit (ap (λ k. i2osp k n) whole ∙ i2osp-lower n (t * 256) r)

-- bytes are the octets of the number that they are
pub i2osp-os2ip : (xs : List ℕ) → IsBytes xs → i2osp (os2ip xs) (length xs) ≡ xs
unfolding i2osp
i2osp-os2ip [] bytes = refl
i2osp-os2ip (x ∷ xs) bytes =
    let whole = os2ip-cons x xs in
    let below = os2ip-below xs (λ k. bytes (suc k)) in
    let digit = ap (λ k. k / 256 ^ length xs % 256) whole ∙ ap (λ k. k % 256) (div-mul-add x (256 ^ length xs) (os2ip xs) below) ∙ mod-eq_of_lt (bytes 0) in
    ap₂ (λ (d : ℕ) (l : List ℕ). d ∷ l) digit
    (ap (λ k. i2osp k (length xs)) whole ∙ i2osp-lower (length xs) x (os2ip xs) ∙ i2osp-os2ip xs (λ k. bytes (suc k)))

-- ---- how many there are

-- the first nine bits are not all zero
number-least : (contents : List ℕ) → IsShortest contents → 1 < length contents → 128 * 256 ^ (length contents - 2) ≤ os2ip contents
number-least [] s long = absurd (omega arith)
number-least (x ∷ []) s long = absurd (omega arith)
number-least (zero ∷ (y ∷ ys)) s long =
    let size : 256 ^ length ys ≡ 256 ^ (length (zero ∷ (y ∷ ys)) - 2) = ap (λ k. 256 ^ k) (omega arith) in
    let high : 128 ≤ y = s.least (omega arith) refl in
    let product = mul-le-mul_left (256 ^ length ys) high in
    omega (arith, size, product, os2ip-cons 0 (y ∷ ys), os2ip-cons y ys)
number-least (suc x ∷ (y ∷ ys)) s long =
    let first : 1 ≤ suc x = omega arith in
    let product = mul-le-mul_left (256 ^ suc (length ys)) first in
    let size : 256 ^ length ys ≡ 256 ^ (length (suc x ∷ (y ∷ ys)) - 2) = ap (λ k. 256 ^ k) (omega arith) in
    omega (arith, size, product, pow-suc 256 (length ys), os2ip-cons (suc x) (y ∷ ys))

-- the first bit is zero
number-most : (contents : List ℕ) → IsBytes contents → IsShortest contents → os2ip contents < 128 * 256 ^ (length contents - 1)
number-most [] bytes s = let some = s.some in absurd (omega (arith, some))
number-most (x ∷ xs) bytes s =
    let below = os2ip-below xs (λ k. bytes (suc k)) in
    let positive = s.positive in
    let first : x ≤ 127 = omega (arith, positive) in
    let product = mul-le-mul_left (256 ^ length xs) first in
    let size : 256 ^ length xs ≡ 256 ^ (length (x ∷ xs) - 1) = ap (λ k. 256 ^ k) (omega arith) in
    omega (arith, size, below, product, os2ip-cons x xs)

number-size : (n : ℕ) (contents : List ℕ) → IsBytes contents → IsShortest contents → 128 * 256 ^ n ≤ os2ip contents → os2ip contents < 128 * 256 ^ (n + 1)
    → length contents ≡ n + 2
number-size n contents bytes s least most =
    let some = s.some in
    elim (cases_lt (length contents) (n + 2)) [
      | inl short ↦
          (let power : 256 ^ (length contents - 1) ≤ 256 ^ n = pow-le-pow_right (omega arith) (omega (arith, short)) in
          let below = number-most contents bytes s in
          absurd (omega (arith, power, below, least)))
      | inr long ↦ elim (cases_lt (n + 2) (length contents)) [
        | inl longer ↦
            (let power : 256 ^ (n + 1) ≤ 256 ^ (length contents - 2) = pow-le-pow_right (omega arith) (omega (arith, longer)) in
            let above = number-least contents s (omega (arith, longer)) in
            absurd (omega (arith, power, above, most)))
        | inr last ↦ omega (arith, long, last)
      ]
    ]

-- ---- the numbers of a public key

-- a modulus of 2048 bits has an octet for the sign alone, and 256 others
pub modulus-size : (n : ℕ) (contents : List ℕ) → IsBytes contents → IsShortest contents → os2ip contents ≡ n → 2 ^ 2047 ≤ n → n < 2 ^ 2048
    → length contents ≡ 257
modulus-size n contents bytes s is full below =
    let low : 128 * 256 ^ 255 ≡ 2 ^ 2047 = refl in
    let high : 2 ^ 2048 ≡ 256 ^ 256 = refl in
    number-size 255 contents bytes s (omega (arith, is, full, low)) (omega (arith, is, below, high))

pub modulus-octets : (n : ℕ) (contents : List ℕ) → IsBytes contents → IsShortest contents → os2ip contents ≡ n → 2 ^ 2047 ≤ n → n < 2 ^ 2048
    → contents ≡ 0 ∷ i2osp n 256
modulus-octets n [] bytes s is full below = let some = s.some in absurd (omega (arith, some))
modulus-octets n (zero ∷ xs) bytes s is full below =
    let size = modulus-size n (0 ∷ xs) bytes s is full below in
    let same : os2ip xs ≡ n = omega (arith, os2ip-cons 0 xs, is) in
    ap (λ (l : List ℕ). 0 ∷ l) (sym (i2osp-os2ip xs (λ k. bytes (suc k))) ∙ ap₂ i2osp same (omega (arith, size)))
modulus-octets n (suc x ∷ xs) bytes s is full below =
    let size = modulus-size n (suc x ∷ xs) bytes s is full below in
    let least = least-front 256 (suc x ∷ xs) (omega (arith, size)) (λ e. omega (arith, e)) in
    let high : 2 ^ 2048 ≡ 256 ^ 256 = refl in
    absurd (omega (arith, least, is, below, high))

pub exponent-octets : (contents : List ℕ) → IsBytes contents → IsShortest contents → os2ip contents ≡ 65537 → contents ≡ 1 ∷ 0 ∷ 1 ∷ []
unfolding i2osp
exponent-octets contents bytes s is =
    let size = number-size 1 contents bytes s (omega (arith, is)) (omega (arith, is)) in
    sym (i2osp-os2ip contents bytes) ∙ ap₂ i2osp is size
