-- MixColumns as sums of a block, of the block turned up, and of what is doubled.
use Rattle.std.proofs.Common.{◌≡◌, ℕ, ◌+◌, ◌%◌, ◌<◌, Bool, true, false, List, [], ◌∷◌, slice_index, bit_xor, refl, sym, ap, ap₂, ◌∙◌, arith}
use Rattle.std.proofs.lemmas.Nat.{xor_comm, xor_lt}
use lib.Bits.{xor_assoc}
use Rattle.rusty_paseto_primitives.specs.Bytes.{IsBytes}
use Rattle.rusty_paseto_primitives.specs.Aes.Field.{xtimes}
use Rattle.rusty_paseto_primitives.specs.Aes.Planes.{bit, differ, doubled, turned}
use Rattle.rusty_paseto_primitives.specs.Aes.State.{add_round_key, at, mix_columns, row_product}
use Rattle.rusty_paseto_primitives.proofs.AesBlocks.{IsBytes-add_round_key, IsBytes-state_of}
use Rattle.rusty_paseto_primitives.proofs.AesBytes.{agree_below, product_by_one, product_by_three, product_by_two, values}
use Rattle.rusty_paseto_primitives.proofs.AesPlanes.{bit-xor, byte-agree, byte-bit}
use Rattle.rusty_paseto_primitives.proofs.AesSteps.{doubled_bits, xtimes-bit}
use Rattle.rusty_paseto_primitives.proofs.Below.{below_eight}

xtimes-mod : (a : ℕ) → a < 256 → xtimes a % 256 ≡ xtimes a
unfolding values xtimes
xtimes-mod = agree_below (λ a. xtimes a % 256) xtimes 256 refl

xtimes-lt : (a : ℕ) → a < 256 → xtimes a < 256
xtimes-lt a h = omega (arith, xtimes-mod a h)

crossed : (a b c d : Bool) → differ (differ a b) (differ c d) ≡ differ (differ a c) (differ b d)
crossed true true true true = refl
crossed true true true false = refl
crossed true true false true = refl
crossed true true false false = refl
crossed true false true true = refl
crossed true false true false = refl
crossed true false false true = refl
crossed true false false false = refl
crossed false true true true = refl
crossed false true true false = refl
crossed false true false true = refl
crossed false true false false = refl
crossed false false true true = refl
crossed false false true false = refl
crossed false false false true = refl
crossed false false false false = refl

-- the double of a sum is the sum of the doubles
doubled_bits-xor : (x y b : ℕ) → b < 8 → doubled_bits (bit (bit_xor x y)) b ≡ differ (doubled_bits (bit x) b) (doubled_bits (bit y) b)
doubled_bits-xor x y =
    below_eight (λ b. doubled_bits (bit (bit_xor x y)) b ≡ differ (doubled_bits (bit x) b) (doubled_bits (bit y) b))
    (bit-xor x y 7)
    (ap₂ differ (bit-xor x y 0) (bit-xor x y 7) ∙ crossed (bit x 0) (bit y 0) (bit x 7) (bit y 7))
    (bit-xor x y 1)
    (ap₂ differ (bit-xor x y 2) (bit-xor x y 7) ∙ crossed (bit x 2) (bit y 2) (bit x 7) (bit y 7))
    (ap₂ differ (bit-xor x y 3) (bit-xor x y 7) ∙ crossed (bit x 3) (bit y 3) (bit x 7) (bit y 7))
    (bit-xor x y 4)
    (bit-xor x y 5)
    (bit-xor x y 6)

xtimes-xor : (x y : ℕ) → x < 256 → y < 256 → xtimes (bit_xor x y) ≡ bit_xor (xtimes x) (xtimes y)
xtimes-xor x y hx hy =
    let sum : bit_xor x y < 256 = xor_lt 8 x y hx hy in
    sym (byte-bit (xtimes (bit_xor x y)) (xtimes-lt (bit_xor x y) sum))
    ∙ byte-agree (bit (xtimes (bit_xor x y))) (bit (bit_xor (xtimes x) (xtimes y)))
    (λ b h. sym (xtimes-bit (bit_xor x y) b sum h) ∙ doubled_bits-xor x y b h
    ∙ ap₂ differ (xtimes-bit x b hx h) (xtimes-bit y b hy h) ∙ sym (bit-xor (xtimes x) (xtimes y) b))
    ∙ byte-bit (bit_xor (xtimes x) (xtimes y)) (xor_lt 8 (xtimes x) (xtimes y) (xtimes-lt x hx) (xtimes-lt y hy))

mixed_0 : (a0 a1 a2 a3 : ℕ) → a0 < 256 → a1 < 256 → a2 < 256 → a3 < 256
    → bit_xor (bit_xor (xtimes (bit_xor a0 a1)) a1) (bit_xor a2 a3) ≡ row_product (2 ∷ 3 ∷ 1 ∷ 1 ∷ []) a0 a1 a2 a3
unfolding row_product
mixed_0 a0 a1 a2 a3 h0 h1 h2 h3 =
    rw (product_by_two a0 h0, product_by_three a1 h1, product_by_one a2 h2, product_by_one a3 h3, xtimes-xor a0 a1 h0 h1) (
    ap (λ (t : ℕ). bit_xor t (bit_xor a2 a3)) (xor_assoc (xtimes a0) (xtimes a1) a1)
    ∙ sym (xor_assoc (bit_xor (xtimes a0) (bit_xor (xtimes a1) a1)) a2 a3))

mixed_1 : (a0 a1 a2 a3 : ℕ) → a0 < 256 → a1 < 256 → a2 < 256 → a3 < 256
    → bit_xor (bit_xor (xtimes (bit_xor a1 a2)) a2) (bit_xor a3 a0) ≡ row_product (1 ∷ 2 ∷ 3 ∷ 1 ∷ []) a0 a1 a2 a3
unfolding row_product
mixed_1 a0 a1 a2 a3 h0 h1 h2 h3 =
    rw (product_by_one a0 h0, product_by_two a1 h1, product_by_three a2 h2, product_by_one a3 h3, xtimes-xor a1 a2 h1 h2) (
    let rest : ℕ = bit_xor (xtimes a2) a2 in
    let both : ℕ = bit_xor (xtimes a1) rest in
    ap (λ (t : ℕ). bit_xor t (bit_xor a3 a0)) (xor_assoc (xtimes a1) (xtimes a2) a2)
    ∙ ap (bit_xor both) (xor_comm a3 a0) ∙ sym (xor_assoc both a0 a3)
    ∙ ap (λ (t : ℕ). bit_xor t a3) (xor_comm both a0 ∙ sym (xor_assoc a0 (xtimes a1) rest)))

mixed_2 : (a0 a1 a2 a3 : ℕ) → a0 < 256 → a1 < 256 → a2 < 256 → a3 < 256
    → bit_xor (bit_xor (xtimes (bit_xor a2 a3)) a3) (bit_xor a0 a1) ≡ row_product (1 ∷ 1 ∷ 2 ∷ 3 ∷ []) a0 a1 a2 a3
unfolding row_product
mixed_2 a0 a1 a2 a3 h0 h1 h2 h3 =
    rw (product_by_one a0 h0, product_by_one a1 h1, product_by_two a2 h2, product_by_three a3 h3, xtimes-xor a2 a3 h2 h3) (
    let rest : ℕ = bit_xor (xtimes a3) a3 in
    ap (λ (t : ℕ). bit_xor t (bit_xor a0 a1)) (xor_assoc (xtimes a2) (xtimes a3) a3)
    ∙ xor_comm (bit_xor (xtimes a2) rest) (bit_xor a0 a1) ∙ sym (xor_assoc (bit_xor a0 a1) (xtimes a2) rest))

mixed_3 : (a0 a1 a2 a3 : ℕ) → a0 < 256 → a1 < 256 → a2 < 256 → a3 < 256
    → bit_xor (bit_xor (xtimes (bit_xor a3 a0)) a0) (bit_xor a1 a2) ≡ row_product (3 ∷ 1 ∷ 1 ∷ 2 ∷ []) a0 a1 a2 a3
unfolding row_product
mixed_3 a0 a1 a2 a3 h0 h1 h2 h3 =
    rw (product_by_three a0 h0, product_by_one a1 h1, product_by_one a2 h2, product_by_two a3 h3, xtimes-xor a3 a0 h3 h0) (
    let rest : ℕ = bit_xor (xtimes a0) a0 in
    ap (λ (t : ℕ). bit_xor t (bit_xor a1 a2)) (xor_assoc (xtimes a3) (xtimes a0) a0)
    ∙ xor_assoc (xtimes a3) rest (bit_xor a1 a2) ∙ xor_comm (xtimes a3) (bit_xor rest (bit_xor a1 a2))
    ∙ ap (λ (t : ℕ). bit_xor t (xtimes a3)) (sym (xor_assoc rest a1 a2)))

-- MixColumns of a block
pub mix_columns-is : (s : List ℕ) → IsBytes s → let next = turned 1 s in let both = add_round_key s next in
    add_round_key (add_round_key (doubled both) next) (turned 2 both) ≡ mix_columns s
unfolding add_round_key doubled mix_columns turned
mix_columns-is s bytes =
    (ap₂ ◌∷◌ (mixed_0 (slice_index s 0) (slice_index s 1) (slice_index s 2) (slice_index s 3) (bytes 0) (bytes 1) (bytes 2) (bytes 3))
    (ap₂ ◌∷◌ (mixed_1 (slice_index s 0) (slice_index s 1) (slice_index s 2) (slice_index s 3) (bytes 0) (bytes 1) (bytes 2) (bytes 3))
    (ap₂ ◌∷◌ (mixed_2 (slice_index s 0) (slice_index s 1) (slice_index s 2) (slice_index s 3) (bytes 0) (bytes 1) (bytes 2) (bytes 3))
    (ap₂ ◌∷◌ (mixed_3 (slice_index s 0) (slice_index s 1) (slice_index s 2) (slice_index s 3) (bytes 0) (bytes 1) (bytes 2) (bytes 3))
    (ap₂ ◌∷◌ (mixed_0 (slice_index s 4) (slice_index s 5) (slice_index s 6) (slice_index s 7) (bytes 4) (bytes 5) (bytes 6) (bytes 7))
    (ap₂ ◌∷◌ (mixed_1 (slice_index s 4) (slice_index s 5) (slice_index s 6) (slice_index s 7) (bytes 4) (bytes 5) (bytes 6) (bytes 7))
    (ap₂ ◌∷◌ (mixed_2 (slice_index s 4) (slice_index s 5) (slice_index s 6) (slice_index s 7) (bytes 4) (bytes 5) (bytes 6) (bytes 7))
    (ap₂ ◌∷◌ (mixed_3 (slice_index s 4) (slice_index s 5) (slice_index s 6) (slice_index s 7) (bytes 4) (bytes 5) (bytes 6) (bytes 7))
    (ap₂ ◌∷◌ (mixed_0 (slice_index s 8) (slice_index s 9) (slice_index s 10) (slice_index s 11) (bytes 8) (bytes 9) (bytes 10) (bytes 11))
    (ap₂ ◌∷◌ (mixed_1 (slice_index s 8) (slice_index s 9) (slice_index s 10) (slice_index s 11) (bytes 8) (bytes 9) (bytes 10) (bytes 11))
    (ap₂ ◌∷◌ (mixed_2 (slice_index s 8) (slice_index s 9) (slice_index s 10) (slice_index s 11) (bytes 8) (bytes 9) (bytes 10) (bytes 11))
    (ap₂ ◌∷◌ (mixed_3 (slice_index s 8) (slice_index s 9) (slice_index s 10) (slice_index s 11) (bytes 8) (bytes 9) (bytes 10) (bytes 11))
    (ap₂ ◌∷◌ (mixed_0 (slice_index s 12) (slice_index s 13) (slice_index s 14) (slice_index s 15) (bytes 12) (bytes 13) (bytes 14) (bytes 15))
    (ap₂ ◌∷◌ (mixed_1 (slice_index s 12) (slice_index s 13) (slice_index s 14) (slice_index s 15) (bytes 12) (bytes 13) (bytes 14) (bytes 15))
    (ap₂ ◌∷◌ (mixed_2 (slice_index s 12) (slice_index s 13) (slice_index s 14) (slice_index s 15) (bytes 12) (bytes 13) (bytes 14) (bytes 15))
    (ap₂ ◌∷◌ (mixed_3 (slice_index s 12) (slice_index s 13) (slice_index s 14) (slice_index s 15) (bytes 12) (bytes 13) (bytes 14) (bytes 15))
    refl))))))))))))))))

pub IsBytes-turned : (k : ℕ) (s : List ℕ) → IsBytes s → IsBytes (turned k s)
unfolding turned
IsBytes-turned k s bytes =
    IsBytes-state_of (λ row column. at s ((row + k) % 4) column) (λ row column. bytes _)

pub IsBytes-doubled : (s : List ℕ) → IsBytes s → IsBytes (doubled s)
unfolding doubled
IsBytes-doubled s bytes = IsBytes-state_of (λ row column. xtimes (at s row column)) (λ row column. xtimes-lt (at s row column) (bytes _))

-- what is doubled in MixColumns is of bytes
pub IsBytes-both : (s : List ℕ) → IsBytes s → IsBytes (add_round_key s (turned 1 s))
IsBytes-both s bytes = IsBytes-add_round_key s (turned 1 s) bytes (IsBytes-turned 1 s bytes)

pub IsBytes-mix_columns : (s : List ℕ) → IsBytes s → IsBytes (mix_columns s)
IsBytes-mix_columns s bytes =
    let next : List ℕ = turned 1 s in
    let both : List ℕ = add_round_key s next in
    rw (← mix_columns-is s bytes) (IsBytes-add_round_key (add_round_key (doubled both) next) (turned 2 both)
    (IsBytes-add_round_key (doubled both) next (IsBytes-doubled both (IsBytes-both s bytes)) (IsBytes-turned 1 s bytes))
    (IsBytes-turned 2 both (IsBytes-both s bytes)))
