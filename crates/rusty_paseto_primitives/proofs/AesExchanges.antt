-- How bits are exchanged between two bytes, and blocks packed into planes.
use Rattle.std.proofs.Common.{◌≡◌, ℕ, ◌+◌, ◌-◌, ◌*◌, ◌/◌, ◌%◌, ◌<◌, Bool, true, false, ◌&&◌, cond, bit_and, bit_xor, refl, ap, ap₂, ◌∙◌, arith}
use Rattle.std.specs.Prelude.{nat_lt}
use Rattle.rusty_paseto_primitives.specs.Aes.Planes.{back, bit, byte, differ, front}
use Rattle.rusty_paseto_primitives.proofs.AesBytes.{agree_below, values}
use Rattle.rusty_paseto_primitives.proofs.AesPlanes.{and-byte, bit-byte, byte-agree, byte-lt, xor-byte}
use Rattle.rusty_paseto_primitives.proofs.Below.{below_eight}

-- a sum of two bits of which one is xored away
pick_first : (a b : Bool) → differ (a && true) (b && false) ≡ a
pick_first true true = refl
pick_first true false = refl
pick_first false true = refl
pick_first false false = refl

pick_second : (a b : Bool) → differ (a && false) (b && true) ≡ b
pick_second true true = refl
pick_second true false = refl
pick_second false true = refl
pick_second false false = refl

-- the bits of a byte that is moved up, and down, by k places
abbrev up : ℕ → (ℕ → Bool) → ℕ → Bool
up k f p = cond (nat_lt p k) false (f (p - k))

abbrev down : ℕ → (ℕ → Bool) → ℕ → Bool
down k f p = cond (nat_lt (p + k) 8) (f (p + k)) false

-- what is so of all 256 bytes is so of the byte of any bits
bits_of_byte : (F : ℕ → ℕ) (G : (ℕ → Bool) → ℕ → Bool) → ((x : ℕ) → x < 256 → F x ≡ byte (G (bit x)))
    → ((f g : ℕ → Bool) → ((p : ℕ) → p < 8 → f p ≡ g p) → byte (G f) ≡ byte (G g))
    → (f : ℕ → Bool) → F (byte f) ≡ byte (G f)
bits_of_byte F G table same f = table (byte f) (byte-lt f) ∙ same (bit (byte f)) f (λ p h. bit-byte f p h)

-- by four
up_four : (f : ℕ → Bool) → byte f * 16 % 256 ≡ byte (up 4 f)
unfolding values byte
up_four = bits_of_byte (λ x. x * 16 % 256) (up 4) (agree_below (λ x. x * 16 % 256) (λ x. byte (up 4 (bit x))) 256 refl)
    (λ f g same. byte-agree (up 4 f) (up 4 g) (below_eight (λ p. up 4 f p ≡ up 4 g p) refl refl refl refl (same 0 (omega arith)) (same 1 (omega arith)) (same 2 (omega arith)) (same 3 (omega arith))))

down_four : (f : ℕ → Bool) → byte f / 16 ≡ byte (down 4 f)
unfolding values byte
down_four = bits_of_byte (λ x. x / 16) (down 4) (agree_below (λ x. x / 16) (λ x. byte (down 4 (bit x))) 256 refl)
    (λ f g same. byte-agree (down 4 f) (down 4 g) (below_eight (λ p. down 4 f p ≡ down 4 g p) (same 4 (omega arith)) (same 5 (omega arith)) (same 6 (omega arith)) (same 7 (omega arith)) refl refl refl refl))

low_four : ℕ → Bool
low_four = bit 15

high_four : ℕ → Bool
high_four = bit 240

pub front_four : (f g : ℕ → ℕ → Bool) (i : ℕ)
    → bit_xor (bit_and (byte (f i)) 15) (bit_and (byte (g i)) 15 * 16 % 256) ≡ byte (front 4 f g i)
unfolding low_four byte
front_four f g i =
    let a : bit_and (byte (f i)) 15 ≡ byte (λ p. f i p && low_four p) = and-byte (f i) low_four in
    let b : bit_and (byte (g i)) 15 * 16 % 256 ≡ byte (up 4 (λ p. g i p && low_four p)) =
    ap (λ (x : ℕ). x * 16 % 256) (and-byte (g i) low_four) ∙ up_four (λ p. g i p && low_four p) in
    ap₂ bit_xor a b ∙ xor-byte (λ p. f i p && low_four p) (up 4 (λ p. g i p && low_four p))
    ∙ byte-agree (λ p. differ (f i p && low_four p) (up 4 (λ q. g i q && low_four q) p)) (front 4 f g i)
    (below_eight (λ p. differ (f i p && low_four p) (up 4 (λ q. g i q && low_four q) p) ≡ front 4 f g i p)
    (pick_first (f i 0) false) (pick_first (f i 1) false) (pick_first (f i 2) false) (pick_first (f i 3) false) (pick_second (f i 4) (g i 0)) (pick_second (f i 5) (g i 1)) (pick_second (f i 6) (g i 2)) (pick_second (f i 7) (g i 3)))

pub back_four : (f g : ℕ → ℕ → Bool) (i : ℕ)
    → bit_xor (bit_and (byte (f i) / 16) 15) (bit_and (byte (g i)) 240) ≡ byte (back 4 f g i)
unfolding low_four high_four byte
back_four f g i =
    let a : bit_and (byte (f i) / 16) 15 ≡ byte (λ p. down 4 (f i) p && low_four p) =
    ap (λ (x : ℕ). bit_and x 15) (down_four (f i)) ∙ and-byte (down 4 (f i)) low_four in
    let b : bit_and (byte (g i)) 240 ≡ byte (λ p. g i p && high_four p) = and-byte (g i) high_four in
    ap₂ bit_xor a b ∙ xor-byte (λ p. down 4 (f i) p && low_four p) (λ p. g i p && high_four p)
    ∙ byte-agree (λ p. differ (down 4 (f i) p && low_four p) (g i p && high_four p)) (back 4 f g i)
    (below_eight (λ p. differ (down 4 (f i) p && low_four p) (g i p && high_four p) ≡ back 4 f g i p)
    (pick_first (f i 4) (g i 0)) (pick_first (f i 5) (g i 1)) (pick_first (f i 6) (g i 2)) (pick_first (f i 7) (g i 3)) (pick_second false (g i 4)) (pick_second false (g i 5)) (pick_second false (g i 6)) (pick_second false (g i 7)))

-- by two
up_two : (f : ℕ → Bool) → byte f * 4 % 256 ≡ byte (up 2 f)
unfolding values byte
up_two = bits_of_byte (λ x. x * 4 % 256) (up 2) (agree_below (λ x. x * 4 % 256) (λ x. byte (up 2 (bit x))) 256 refl)
    (λ f g same. byte-agree (up 2 f) (up 2 g) (below_eight (λ p. up 2 f p ≡ up 2 g p) refl refl (same 0 (omega arith)) (same 1 (omega arith)) (same 2 (omega arith)) (same 3 (omega arith)) (same 4 (omega arith)) (same 5 (omega arith))))

down_two : (f : ℕ → Bool) → byte f / 4 ≡ byte (down 2 f)
unfolding values byte
down_two = bits_of_byte (λ x. x / 4) (down 2) (agree_below (λ x. x / 4) (λ x. byte (down 2 (bit x))) 256 refl)
    (λ f g same. byte-agree (down 2 f) (down 2 g) (below_eight (λ p. down 2 f p ≡ down 2 g p) (same 2 (omega arith)) (same 3 (omega arith)) (same 4 (omega arith)) (same 5 (omega arith)) (same 6 (omega arith)) (same 7 (omega arith)) refl refl))

low_two : ℕ → Bool
low_two = bit 51

high_two : ℕ → Bool
high_two = bit 204

pub front_two : (f g : ℕ → ℕ → Bool) (i : ℕ)
    → bit_xor (bit_and (byte (f i)) 51) (bit_and (byte (g i)) 51 * 4 % 256) ≡ byte (front 2 f g i)
unfolding low_two byte
front_two f g i =
    let a : bit_and (byte (f i)) 51 ≡ byte (λ p. f i p && low_two p) = and-byte (f i) low_two in
    let b : bit_and (byte (g i)) 51 * 4 % 256 ≡ byte (up 2 (λ p. g i p && low_two p)) =
    ap (λ (x : ℕ). x * 4 % 256) (and-byte (g i) low_two) ∙ up_two (λ p. g i p && low_two p) in
    ap₂ bit_xor a b ∙ xor-byte (λ p. f i p && low_two p) (up 2 (λ p. g i p && low_two p))
    ∙ byte-agree (λ p. differ (f i p && low_two p) (up 2 (λ q. g i q && low_two q) p)) (front 2 f g i)
    (below_eight (λ p. differ (f i p && low_two p) (up 2 (λ q. g i q && low_two q) p) ≡ front 2 f g i p)
    (pick_first (f i 0) false) (pick_first (f i 1) false) (pick_second (f i 2) (g i 0)) (pick_second (f i 3) (g i 1)) (pick_first (f i 4) (g i 2)) (pick_first (f i 5) (g i 3)) (pick_second (f i 6) (g i 4)) (pick_second (f i 7) (g i 5)))

pub back_two : (f g : ℕ → ℕ → Bool) (i : ℕ)
    → bit_xor (bit_and (byte (f i) / 4) 51) (bit_and (byte (g i)) 204) ≡ byte (back 2 f g i)
unfolding low_two high_two byte
back_two f g i =
    let a : bit_and (byte (f i) / 4) 51 ≡ byte (λ p. down 2 (f i) p && low_two p) =
    ap (λ (x : ℕ). bit_and x 51) (down_two (f i)) ∙ and-byte (down 2 (f i)) low_two in
    let b : bit_and (byte (g i)) 204 ≡ byte (λ p. g i p && high_two p) = and-byte (g i) high_two in
    ap₂ bit_xor a b ∙ xor-byte (λ p. down 2 (f i) p && low_two p) (λ p. g i p && high_two p)
    ∙ byte-agree (λ p. differ (down 2 (f i) p && low_two p) (g i p && high_two p)) (back 2 f g i)
    (below_eight (λ p. differ (down 2 (f i) p && low_two p) (g i p && high_two p) ≡ back 2 f g i p)
    (pick_first (f i 2) (g i 0)) (pick_first (f i 3) (g i 1)) (pick_second (f i 4) (g i 2)) (pick_second (f i 5) (g i 3)) (pick_first (f i 6) (g i 4)) (pick_first (f i 7) (g i 5)) (pick_second false (g i 6)) (pick_second false (g i 7)))

-- by one
up_one : (f : ℕ → Bool) → byte f * 2 % 256 ≡ byte (up 1 f)
unfolding values byte
up_one = bits_of_byte (λ x. x * 2 % 256) (up 1) (agree_below (λ x. x * 2 % 256) (λ x. byte (up 1 (bit x))) 256 refl)
    (λ f g same. byte-agree (up 1 f) (up 1 g) (below_eight (λ p. up 1 f p ≡ up 1 g p) refl (same 0 (omega arith)) (same 1 (omega arith)) (same 2 (omega arith)) (same 3 (omega arith)) (same 4 (omega arith)) (same 5 (omega arith)) (same 6 (omega arith))))

down_one : (f : ℕ → Bool) → byte f / 2 ≡ byte (down 1 f)
unfolding values byte
down_one = bits_of_byte (λ x. x / 2) (down 1) (agree_below (λ x. x / 2) (λ x. byte (down 1 (bit x))) 256 refl)
    (λ f g same. byte-agree (down 1 f) (down 1 g) (below_eight (λ p. down 1 f p ≡ down 1 g p) (same 1 (omega arith)) (same 2 (omega arith)) (same 3 (omega arith)) (same 4 (omega arith)) (same 5 (omega arith)) (same 6 (omega arith)) (same 7 (omega arith)) refl))

low_one : ℕ → Bool
low_one = bit 85

high_one : ℕ → Bool
high_one = bit 170

pub front_one : (f g : ℕ → ℕ → Bool) (i : ℕ)
    → bit_xor (bit_and (byte (f i)) 85) (bit_and (byte (g i)) 85 * 2 % 256) ≡ byte (front 1 f g i)
unfolding low_one byte
front_one f g i =
    let a : bit_and (byte (f i)) 85 ≡ byte (λ p. f i p && low_one p) = and-byte (f i) low_one in
    let b : bit_and (byte (g i)) 85 * 2 % 256 ≡ byte (up 1 (λ p. g i p && low_one p)) =
    ap (λ (x : ℕ). x * 2 % 256) (and-byte (g i) low_one) ∙ up_one (λ p. g i p && low_one p) in
    ap₂ bit_xor a b ∙ xor-byte (λ p. f i p && low_one p) (up 1 (λ p. g i p && low_one p))
    ∙ byte-agree (λ p. differ (f i p && low_one p) (up 1 (λ q. g i q && low_one q) p)) (front 1 f g i)
    (below_eight (λ p. differ (f i p && low_one p) (up 1 (λ q. g i q && low_one q) p) ≡ front 1 f g i p)
    (pick_first (f i 0) false) (pick_second (f i 1) (g i 0)) (pick_first (f i 2) (g i 1)) (pick_second (f i 3) (g i 2)) (pick_first (f i 4) (g i 3)) (pick_second (f i 5) (g i 4)) (pick_first (f i 6) (g i 5)) (pick_second (f i 7) (g i 6)))

pub back_one : (f g : ℕ → ℕ → Bool) (i : ℕ)
    → bit_xor (bit_and (byte (f i) / 2) 85) (bit_and (byte (g i)) 170) ≡ byte (back 1 f g i)
unfolding low_one high_one byte
back_one f g i =
    let a : bit_and (byte (f i) / 2) 85 ≡ byte (λ p. down 1 (f i) p && low_one p) =
    ap (λ (x : ℕ). bit_and x 85) (down_one (f i)) ∙ and-byte (down 1 (f i)) low_one in
    let b : bit_and (byte (g i)) 170 ≡ byte (λ p. g i p && high_one p) = and-byte (g i) high_one in
    ap₂ bit_xor a b ∙ xor-byte (λ p. down 1 (f i) p && low_one p) (λ p. g i p && high_one p)
    ∙ byte-agree (λ p. differ (down 1 (f i) p && low_one p) (g i p && high_one p)) (back 1 f g i)
    (below_eight (λ p. differ (down 1 (f i) p && low_one p) (g i p && high_one p) ≡ back 1 f g i p)
    (pick_first (f i 1) (g i 0)) (pick_second (f i 2) (g i 1)) (pick_first (f i 3) (g i 2)) (pick_second (f i 4) (g i 3)) (pick_first (f i 5) (g i 4)) (pick_second (f i 6) (g i 5)) (pick_first (f i 7) (g i 6)) (pick_second false (g i 7)))
