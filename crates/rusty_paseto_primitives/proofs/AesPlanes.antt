-- Bytes, vectors and planes by their bits.
use Rattle.std.proofs.Common.{◌≡◌, ℕ, zero, suc, ◌+◌, ◌*◌, ◌%◌, ◌/◌, ◌^◌, ◌<◌, ◌≤◌, Bool, true, false, ◌&&◌, cond, ◌∷◌, map, bit_and, bit_xor, refl, sym, ap, ap₂, ◌∙◌, arith}
use Rattle.std.specs.Prelude.{nat_eq, min}
use Rattle.std.specs.Int.{bit_at}
use Rattle.std.specs.Int.Bits.{and_lt}
use Rattle.std.specs.List.{range_with_len}
use Rattle.std.specs.Simd.Lanes.{mask_l, zip2}
use Rattle.std.proofs.lemmas.List.FromFn.{get_or-map-range_with_len}
use Rattle.std.proofs.lemmas.Nat.{xor_lt}
use Rattle.std.proofs.lemmas.Nat.Bits.{bit_at_and, bit_at_xor, bit_at-lt, shr_and_one, same_from_bits_below}
use Rattle.std.proofs.lemmas.Simd.{bit_mask_l, mask_l-lt}
use Rattle.rusty_paseto_primitives.specs.Aes.Planes.{bit, byte, differ, plane, vectors}

-- functions that agree on a run of numbers list the same values there
pub map_run-agree : {A : Type 0} (f g : ℕ → A) (a n : ℕ) → ((i : ℕ) → a ≤ i → i < a + n → f i ≡ g i)
    → map f (range_with_len a n) ≡ map g (range_with_len a n)
map_run-agree f g a zero same = refl
map_run-agree f g a (suc n) same =
    ap₂ ◌∷◌ (same a (omega arith) (omega arith)) (map_run-agree f g (a + 1) n (λ i low high. same i (omega arith) (omega arith)))

pub byte-agree : (f g : ℕ → Bool) → ((p : ℕ) → p < 8 → f p ≡ g p) → byte f ≡ byte g
unfolding byte
byte-agree f g same = ap mask_l (map_run-agree f g 0 8 (λ p low high. same p (omega arith)))

pub plane-agree : (f g : ℕ → ℕ → Bool) → ((i j : ℕ) → i < 16 → j < 8 → f i j ≡ g i j) → plane f ≡ plane g
unfolding plane
plane-agree f g same =
    map_run-agree (λ i. byte (f i)) (λ i. byte (g i)) 0 16 (λ i low high. byte-agree (f i) (g i) (λ j h. same i j (omega arith) h))

pub vectors-agree : (n : ℕ) (f g : ℕ → ℕ → ℕ → Bool) → ((k i j : ℕ) → k < n → i < 16 → j < 8 → f k i j ≡ g k i j)
    → vectors n f ≡ vectors n g
vectors-agree n f g same =
    map_run-agree (λ k. plane (f k)) (λ k. plane (g k)) 0 n (λ k low high. plane-agree (f k) (g k) (λ i j hi hj. same k i j (omega arith) hi hj))

-- a bit as a number
abbrev digit : Bool → ℕ
digit b = cond b 1 0

digit_of : (m : ℕ) → m < 2 → digit (nat_eq m 1) ≡ m
digit_of zero h = refl
digit_of (suc zero) h = refl
digit_of (suc (suc m)) h = absurd (omega arith)

of_digit : (b : Bool) → nat_eq (digit b) 1 ≡ b
of_digit true = refl
of_digit false = refl

digit-differ : (a b : Bool) → (digit a + digit b) % 2 ≡ digit (differ a b)
digit-differ true true = refl
digit-differ true false = refl
digit-differ false true = refl
digit-differ false false = refl

digit-and : (a b : Bool) → min (digit a) (digit b) ≡ digit (a && b)
digit-and true true = refl
digit-and true false = refl
digit-and false true = refl
digit-and false false = refl

pub byte-lt : (f : ℕ → Bool) → byte f < 256
unfolding byte
byte-lt f = mask_l-lt (map f (range_with_len 0 8))

bit_at-byte : (f : ℕ → Bool) (p : ℕ) → p < 8 → bit_at (byte f) p ≡ digit (f p)
unfolding byte
bit_at-byte f p h =
    bit_mask_l (map f (range_with_len 0 8)) p ∙ ap digit (get_or-map-range_with_len f 0 8 p p false h (omega arith))

pub bit-byte : (f : ℕ → Bool) (p : ℕ) → p < 8 → bit (byte f) p ≡ f p
bit-byte f p h = ap (λ (d : ℕ). nat_eq d 1) (bit_at-byte f p h) ∙ of_digit (f p)

-- a byte is that of its bits
pub byte-bit : (x : ℕ) → x < 256 → byte (bit x) ≡ x
byte-bit x lt =
    same_from_bits_below 8 (byte (bit x)) x (byte-lt (bit x)) lt
    (λ p h. bit_at-byte (bit x) p h ∙ digit_of (bit_at x p) (bit_at-lt x p))

pub bit-xor : (x y p : ℕ) → bit (bit_xor x y) p ≡ differ (bit x p) (bit y p)
bit-xor x y p =
    let dx : bit_at x p ≡ digit (bit x p) = sym (digit_of (bit_at x p) (bit_at-lt x p)) in
    let dy : bit_at y p ≡ digit (bit y p) = sym (digit_of (bit_at y p) (bit_at-lt y p)) in
    ap (λ (d : ℕ). nat_eq d 1) (bit_at_xor x y p ∙ ap₂ (λ (m n : ℕ). (m + n) % 2) dx dy ∙ digit-differ (bit x p) (bit y p))
    ∙ of_digit (differ (bit x p) (bit y p))

pub xor-byte : (f g : ℕ → Bool) → bit_xor (byte f) (byte g) ≡ byte (λ p. differ (f p) (g p))
xor-byte f g =
    sym (byte-bit (bit_xor (byte f) (byte g)) (xor_lt 8 (byte f) (byte g) (byte-lt f) (byte-lt g)))
    ∙ byte-agree (bit (bit_xor (byte f) (byte g))) (λ p. differ (f p) (g p))
    (λ p h. bit-xor (byte f) (byte g) p ∙ ap₂ differ (bit-byte f p h) (bit-byte g p h))

pub bit-and : (x y p : ℕ) → bit (bit_and x y) p ≡ (bit x p && bit y p)
bit-and x y p =
    let dx : bit_at x p ≡ digit (bit x p) = sym (digit_of (bit_at x p) (bit_at-lt x p)) in
    let dy : bit_at y p ≡ digit (bit y p) = sym (digit_of (bit_at y p) (bit_at-lt y p)) in
    ap (λ (d : ℕ). nat_eq d 1) (bit_at_and x y p ∙ ap₂ min dx dy ∙ digit-and (bit x p) (bit y p))
    ∙ of_digit (bit x p && bit y p)

pub and-byte : (f g : ℕ → Bool) → bit_and (byte f) (byte g) ≡ byte (λ p. f p && g p)
and-byte f g =
    sym (byte-bit (bit_and (byte f) (byte g)) (and_lt 8 (byte f) (byte g) (byte-lt f) (byte-lt g)))
    ∙ byte-agree (bit (bit_and (byte f) (byte g))) (λ p. f p && g p)
    (λ p h. bit-and (byte f) (byte g) p ∙ ap₂ ◌&&◌ (bit-byte f p h) (bit-byte g p h))

pub xor-plane : (f g : ℕ → ℕ → Bool) → zip2 bit_xor (plane f) (plane g) ≡ plane (λ i j. differ (f i j) (g i j))
unfolding plane
xor-plane f g =
    map_run-agree (λ i. bit_xor (byte (f i)) (byte (g i))) (λ i. byte (λ j. differ (f i j) (g i j))) 0 16 (λ i low high. xor-byte (f i) (g i))

pub and-plane : (f g : ℕ → ℕ → Bool) → zip2 bit_and (plane f) (plane g) ≡ plane (λ i j. f i j && g i j)
unfolding plane
and-plane f g =
    map_run-agree (λ i. bit_and (byte (f i)) (byte (g i))) (λ i. byte (λ j. f i j && g i j)) 0 16 (λ i low high. and-byte (f i) (g i))

spread_digit : (b : Bool) → digit b * 255 % 256 ≡ byte (λ j. b)
unfolding byte
spread_digit true = refl
spread_digit false = refl

-- one bit of a byte, in all bits of a byte
pub spread_bit : (f : ℕ → Bool) (b : ℕ) → b < 8 → bit_and (byte f / 2 ^ b) 1 * 255 % 256 ≡ byte (λ j. f b)
spread_bit f b low =
    ap (λ (d : ℕ). d * 255 % 256) (shr_and_one (byte f) b ∙ bit_at-byte f b low) ∙ spread_digit (f b)
