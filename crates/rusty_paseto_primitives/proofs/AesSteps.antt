-- The steps of a round on planes, for each of the eight blocks.
use Rattle.std.proofs.Common.{◌≡◌, ℕ, ◌+◌, ◌*◌, ◌/◌, ◌%◌, ◌<◌, Bool, false, List, [], ◌∷◌, ◌++◌, map, slice_index, slice_index_or, bit_xor, refl, sym, ap, ◌∙◌, arith}
use Rattle.std.specs.List.{range_with_len}
use Rattle.std.specs.Simd.Lanes.{pick_l, zip2}
use Rattle.std.proofs.lemmas.List.FromFn.{get_or-map-range_with_len}
use Rattle.rusty_paseto_primitives.specs.Bytes.{IsBytes}
use Rattle.rusty_paseto_primitives.specs.Aes.Field.{xtimes}
use Rattle.rusty_paseto_primitives.specs.Aes.Planes.{bit, differ, doubled, plane, planes, turned, vectors}
use Rattle.rusty_paseto_primitives.specs.Aes.State.{add_round_key, shift_rows}
use Rattle.rusty_paseto_primitives.proofs.AesBytes.{agree_below, values}
use Rattle.rusty_paseto_primitives.proofs.AesPlanes.{bit-xor, map_run-agree, plane-agree, vectors-agree, xor-plane}
use Rattle.rusty_paseto_primitives.proofs.Below.{below_sixteen}

-- planes of equal blocks
pub planes-agree : (s t : ℕ → List ℕ) → ((j : ℕ) → s j ≡ t j) → planes s ≡ planes t
planes-agree s t same =
    vectors-agree 8 (λ b i j. bit (slice_index (s j) i) b) (λ b i j. bit (slice_index (t j) i) b)
    (λ b i j hb hi hj. ap (λ (x : List ℕ). bit (slice_index x i) b) (same j))

add_round_key-at : (s t : List ℕ) (i : ℕ) → i < 16 → slice_index (add_round_key s t) i ≡ bit_xor (slice_index s i) (slice_index t i)
unfolding add_round_key
add_round_key-at s t = below_sixteen _ refl refl refl refl refl refl refl refl refl refl refl refl refl refl refl refl

-- the exclusive or of planes
pub planes-sum : (s t : ℕ → List ℕ)
    → map (λ b. zip2 bit_xor (plane (λ i j. bit (slice_index (s j) i) b)) (plane (λ i j. bit (slice_index (t j) i) b))) (range_with_len 0 8)
    ≡ planes (λ j. add_round_key (s j) (t j))
planes-sum s t =
    map_run-agree (λ b. zip2 bit_xor (plane (λ i j. bit (slice_index (s j) i) b)) (plane (λ i j. bit (slice_index (t j) i) b)))
    (λ b. plane (λ i j. bit (slice_index (add_round_key (s j) (t j)) i) b)) 0 8
    (λ b low high. xor-plane (λ i j. bit (slice_index (s j) i) b) (λ i j. bit (slice_index (t j) i) b)
    ∙ plane-agree (λ i j. differ (bit (slice_index (s j) i) b) (bit (slice_index (t j) i) b)) (λ i j. bit (slice_index (add_round_key (s j) (t j)) i) b)
    (λ i j hi hj. sym (ap (λ (x : ℕ). bit x b) (add_round_key-at (s j) (t j) i hi) ∙ bit-xor (slice_index (s j) i) (slice_index (t j) i) b)))

-- planes of which each byte comes from another place, as each block's does
moved : (m : ℕ → ℕ) (F : List ℕ → List ℕ) → ((s : List ℕ) (i : ℕ) → i < 16 → slice_index (F s) i ≡ slice_index s (m i))
    → (s : ℕ → List ℕ) → vectors 8 (λ b i j. bit (slice_index (s j) (m i)) b) ≡ planes (λ j. F (s j))
moved m F at s =
    vectors-agree 8 (λ b i j. bit (slice_index (s j) (m i)) b) (λ b i j. bit (slice_index (F (s j)) i) b)
    (λ b i j hb hi hj. ap (λ (x : ℕ). bit x b) (sym (at (s j) i hi)))

pub shift_rows-planes : (s : ℕ → List ℕ)
    → map (λ b. let p : List ℕ = plane (λ i j. bit (slice_index (s j) i) b) in pick_l 0 (p ++ p) (0 ∷ 5 ∷ 10 ∷ 15 ∷ 4 ∷ 9 ∷ 14 ∷ 3 ∷ 8 ∷ 13 ∷ 2 ∷ 7 ∷ 12 ∷ 1 ∷ 6 ∷ 11 ∷ [])) (range_with_len 0 8)
    ≡ planes (λ j. shift_rows (s j))
unfolding plane shift_rows
shift_rows-planes s =
    moved (λ i. (i + 4 * (i % 4)) % 16) (λ s. shift_rows s) (λ s. below_sixteen _ refl refl refl refl refl refl refl refl refl refl refl refl refl refl refl refl) s

pub turned_one-planes : (s : ℕ → List ℕ)
    → map (λ b. let p : List ℕ = plane (λ i j. bit (slice_index (s j) i) b) in pick_l 0 (p ++ p) (1 ∷ 2 ∷ 3 ∷ 0 ∷ 5 ∷ 6 ∷ 7 ∷ 4 ∷ 9 ∷ 10 ∷ 11 ∷ 8 ∷ 13 ∷ 14 ∷ 15 ∷ 12 ∷ [])) (range_with_len 0 8)
    ≡ planes (λ j. turned 1 (s j))
unfolding plane turned
turned_one-planes s =
    moved (λ i. (i % 4 + 1) % 4 + 4 * (i / 4)) (λ s. turned 1 s) (λ s. below_sixteen _ refl refl refl refl refl refl refl refl refl refl refl refl refl refl refl refl) s

pub turned_two-planes : (s : ℕ → List ℕ)
    → map (λ b. let p : List ℕ = plane (λ i j. bit (slice_index (s j) i) b) in pick_l 0 (p ++ p) (2 ∷ 3 ∷ 0 ∷ 1 ∷ 6 ∷ 7 ∷ 4 ∷ 5 ∷ 10 ∷ 11 ∷ 8 ∷ 9 ∷ 14 ∷ 15 ∷ 12 ∷ 13 ∷ [])) (range_with_len 0 8)
    ≡ planes (λ j. turned 2 (s j))
unfolding plane turned
turned_two-planes s =
    moved (λ i. (i % 4 + 2) % 4 + 4 * (i / 4)) (λ s. turned 2 s) (λ s. below_sixteen _ refl refl refl refl refl refl refl refl refl refl refl refl refl refl refl refl) s

-- the bits of a byte times x
abbrev pub doubled_bits : (ℕ → Bool) → ℕ → Bool
doubled_bits a b = slice_index_or (a 7 ∷ differ (a 0) (a 7) ∷ a 1 ∷ differ (a 2) (a 7) ∷ differ (a 3) (a 7) ∷ a 4 ∷ a 5 ∷ a 6 ∷ []) b false

xtimes-bits : (x : ℕ) → x < 256 → map (doubled_bits (bit x)) (range_with_len 0 8) ≡ map (bit (xtimes x)) (range_with_len 0 8)
unfolding values xtimes
xtimes-bits = agree_below (λ x. map (doubled_bits (bit x)) (range_with_len 0 8)) (λ x. map (bit (xtimes x)) (range_with_len 0 8)) 256 refl

pub xtimes-bit : (x b : ℕ) → x < 256 → b < 8 → doubled_bits (bit x) b ≡ bit (xtimes x) b
xtimes-bit x b fits low =
    sym (get_or-map-range_with_len (doubled_bits (bit x)) 0 8 b b false low (omega arith))
    ∙ ap (λ (v : List Bool). slice_index_or v b false) (xtimes-bits x fits)
    ∙ get_or-map-range_with_len (bit (xtimes x)) 0 8 b b false low (omega arith)

doubled-at : (s : List ℕ) (i : ℕ) → i < 16 → slice_index (doubled s) i ≡ xtimes (slice_index s i)
unfolding doubled
doubled-at s = below_sixteen _ refl refl refl refl refl refl refl refl refl refl refl refl refl refl refl refl

pub doubled-planes : (s : ℕ → List ℕ) → ((j : ℕ) → IsBytes (s j))
    → vectors 8 (λ b i j. doubled_bits (λ k. bit (slice_index (s j) i) k) b) ≡ planes (λ j. doubled (s j))
doubled-planes s bytes =
    vectors-agree 8 (λ b i j. doubled_bits (bit (slice_index (s j) i)) b) (λ b i j. bit (slice_index (doubled (s j)) i) b)
    (λ b i j hb hi hj. xtimes-bit (slice_index (s j) i) b (bytes j i) hb ∙ ap (λ (x : ℕ). bit x b) (sym (doubled-at (s j) i hi)))
