-- A secret scalar is a multiple of 8 between 2 ^ 254 and 2 ^ 255, so that the order of the base point divides it not.
use Rattle.std.specs.Int.{byte_at, bytes_high_first, to_be_bytes, w64}
use Rattle.std.proofs.Common.{◌≡◌, ◌≢◌, ℕ, zero, suc, ◌+◌, ◌*◌, ◌/◌, ◌%◌, ◌^◌, ◌<◌, ◌≤◌, List, [], ◌∷◌, ◌++◌, length, get_or, slice_index, slice_set, take, drop, refl, ◌∙◌, ap, arith, lit<, mod-lt, get_or-drop, get_or-take, length-set, length-take, min}
use Rattle.std.proofs.lemmas.List.{get_or-set_other, get_or-set_same}
use Rattle.sha2.specs.Sha512.{digest_bytes, sha512}
use Rattle.paseto_ed25519.specs.Ed25519.{clamped, secret_scalar}
use Rattle.paseto_edwards25519.specs.Scalar.{number32, word}
use Rattle.paseto_edwards_laws.specs.Edwards25519.{order}

abbrev pub AreLow : List ℕ → Type 0
AreLow bytes = (i : ℕ) → get_or bytes i 0 < 256

low-none : AreLow []
low-none i = lit< tt

low-cons : (b : ℕ) (bytes : List ℕ) → b < 256 → AreLow bytes → AreLow (b ∷ bytes)
low-cons b bytes low each zero = low
low-cons b bytes low each (suc i) = each i

low-append : (a b : List ℕ) → AreLow a → AreLow b → AreLow (a ++ b)
low-append [] b low-a low-b = low-b
low-append (x ∷ a) b low-a low-b = low-cons x (a ++ b) (low-a zero) (low-append a b (λ i. low-a (suc i)) low-b)

low-take : (n : ℕ) (a : List ℕ) → AreLow a → AreLow (take n a)
low-take zero a low = low-none
low-take (suc n) [] low = low-none
low-take (suc n) (x ∷ a) low = low-cons x (take n a) (low zero) (low-take n a (λ i. low (suc i)))

low-drop : (n : ℕ) (a : List ℕ) → AreLow a → AreLow (drop n a)
low-drop zero a low = low
low-drop (suc n) [] low = low-none
low-drop (suc n) (x ∷ a) low = low-drop n a (λ i. low (suc i))

low-set : (a : List ℕ) (i b : ℕ) → b < 256 → AreLow a → AreLow (slice_set a i b)
low-set [] i b low-b low = low-none
low-set (x ∷ a) zero b low-b low = low-cons b a low-b (λ i. low (suc i))
low-set (x ∷ a) (suc i) b low-b low = low-cons x (slice_set a i b) (low zero) (low-set a i b low-b (λ i. low (suc i)))

low-byte : (i n : ℕ) → byte_at i n < 256
low-byte zero n = mod-lt n (lit< tt)
low-byte (suc i) n = mod-lt (n / 256 ^ suc i) (lit< tt)

low-high_first : (k n : ℕ) → AreLow (bytes_high_first k n)
low-high_first zero n = low-none
low-high_first (suc k) n = low-cons (byte_at k n) (bytes_high_first k n) (low-byte k n) (low-high_first k n)

low-digest : (h : List ℕ) (n : ℕ) → AreLow (digest_bytes h n)
unfolding digest_bytes
low-digest h zero = low-none
low-digest h (suc n) = low-append (digest_bytes h n) (to_be_bytes w64 (slice_index h n)) (low-digest h n) (low-high_first 8 (slice_index h n))

low-sha512 : (m : List ℕ) → AreLow (sha512 m)
unfolding sha512
low-sha512 m = low-digest _ 8

-- a word of 16 bytes, by its lowest byte and by its highest
word-parts : (xs : List ℕ) → AreLow xs
    → (word xs % 8 ≡ slice_index xs 0 % 8) × (slice_index xs 15 * 2 ^ 120 ≤ word xs) × (word xs < (slice_index xs 15 + 1) * 2 ^ 120)
unfolding word
word-parts xs low = (
  omega arith,
  omega arith,
  omega (arith, low 0, low 1, low 2, low 3, low 4, low 5, low 6, low 7, low 8, low 9, low 10, low 11, low 12, low 13, low 14),
)

length-sha512 : (m : List ℕ) → length (sha512 m) ≡ 64
unfolding sha512 digest_bytes
length-sha512 m = refl

first-clamped : (half : List ℕ) → length half ≡ 32 → slice_index (clamped half) 0 ≡ slice_index half 0 / 8 * 8
unfolding clamped
first-clamped half len =
    let cleared : List ℕ = slice_set half 0 (slice_index half 0 / 8 * 8) in
    get_or-set_other cleared 31 0 (slice_index cleared 31 % 64 + 64) 0 (omega arith)
    ∙ get_or-set_same half 0 (slice_index half 0 / 8 * 8) 0 (omega (arith, len))

last-clamped : (half : List ℕ) → length half ≡ 32
    → (slice_index (clamped half) 31 < 128) × (64 ≤ slice_index (clamped half) 31)
unfolding clamped
last-clamped half len =
    let cleared : List ℕ = slice_set half 0 (slice_index half 0 / 8 * 8) in
    let b : ℕ = slice_index cleared 31 in
    let long : length cleared ≡ 32 = length-set half 0 (slice_index half 0 / 8 * 8) ∙ len in
    let e : slice_index (slice_set cleared 31 (b % 64 + 64)) 31 ≡ b % 64 + 64 =
    get_or-set_same cleared 31 (b % 64 + 64) 0 (omega (arith, long)) in
    (omega (arith, e), omega (arith, e))

low-clamped : (half : List ℕ) → AreLow half → AreLow (clamped half)
unfolding clamped
low-clamped half low =
    let cleared : List ℕ = slice_set half 0 (slice_index half 0 / 8 * 8) in
    low-set cleared 31 (slice_index cleared 31 % 64 + 64) (top-byte (slice_index cleared 31))
    (low-set half 0 (slice_index half 0 / 8 * 8) (first-byte (slice_index half 0) (low 0)) low)
  where
    top-byte : (b : ℕ) → b % 64 + 64 < 256
    top-byte b = omega arith

    first-byte : (b : ℕ) → b < 256 → b / 8 * 8 < 256
    first-byte b h = omega arith

unit-of : (low high a b z : ℕ) → low % 8 ≡ z % 8 → z ≡ a / 8 * 8 → low < 2 ^ 128 → b * 2 ^ 120 ≤ high → high < (b + 1) * 2 ^ 120
    → b < 128 → 64 ≤ b → (low + 2 ^ 128 * high) % order ≢ 0
unit-of low high a b z e f low_low high_least high_most b_most b_least none = omega arith

-- the order does not divide the scalar that 32 bytes give
pub clamped-unit : (half : List ℕ) → length half ≡ 32 → AreLow half → number32 (clamped half) % order ≢ 0
clamped-unit half len low-half =
    let c : List ℕ = clamped half in
    let low : AreLow c = low-clamped half low-half in
    let lower = word-parts (take 16 c) (low-take 16 c low) in
    let upper = word-parts (drop 16 c) (low-drop 16 c low) in
    let first : slice_index (take 16 c) 0 ≡ slice_index c 0 = get_or-take 16 c 0 0 (lit< tt) in
    let last : slice_index (drop 16 c) 15 ≡ slice_index c 31 = get_or-drop 16 c 15 0 in
    let top = last-clamped half len in
    let below : word (take 16 c) < 2 ^ 128 = omega (arith, lower.2, low-take 16 c low 15) in
    unit-of (word (take 16 c)) (word (drop 16 c)) (slice_index half 0) (slice_index c 31) (slice_index c 0)
    (lower.0 ∙ ap (λ n. n % 8) first) (first-clamped half len) below
    (omega (arith, upper.1, last)) (omega (arith, upper.2, last)) top.0 top.1

-- nor the secret scalar of a seed
pub secret-unit : (seed : List ℕ) → secret_scalar seed % order ≢ 0
secret-unit seed =
    let len : length (take 32 (sha512 seed)) ≡ 32 = length-take 32 (sha512 seed) ∙ ap (λ n. min 32 n) (length-sha512 seed) in
    clamped-unit (take 32 (sha512 seed)) len (low-take 32 (sha512 seed) (low-sha512 seed))
