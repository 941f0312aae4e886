-- Groups of eight blocks: how they stand in vectors, and that they are of bytes.
use Rattle.std.proofs.Common.{◌≡◌, ℕ, zero, suc, ◌+◌, ◌<◌, ◌*◌, ◌≢◌, Bool, List, [], ◌∷◌, length, map, take, drop, slice_index, slice_index_or, refl, sym, ◌∙◌, arith, Fits, w8, below_more, get_or-set_other, get_or-set_same, length-drop}
use Rattle.std.proofs.Math.ListN.{set}
use Rattle.std.specs.Int.{w128, to_be_bytes}
use Rattle.std.specs.List.{range_with_len}
use Rattle.std.specs.Simd.Lanes.{Each1}
use Rattle.std.proofs.lemmas.List.{ext_get_or, length-take-le, take-take}
use Rattle.std.proofs.lemmas.List.FromFn.{get_or-map-range_with_len}
use Rattle.rusty_paseto_primitives.specs.Bytes.{IsBytes}
use Rattle.rusty_paseto_primitives.specs.Aes.Cipher.{cipher, rounds}
use Rattle.rusty_paseto_primitives.specs.Aes.KeySchedule.{round_key}
use Rattle.rusty_paseto_primitives.specs.Aes.Planes.{bit, byte, plane, planes, vectors}
use Rattle.rusty_paseto_primitives.specs.Aes.State.{add_round_key, mix_columns, shift_rows, sub_bytes}
use Rattle.rusty_paseto_primitives.proofs.AesBlocks.{IsBytes-add_round_key, IsBytes-round_key, IsBytes-shift_rows, IsBytes-sub_bytes}
use Rattle.rusty_paseto_primitives.proofs.AesMixColumns.{IsBytes-mix_columns}
use Rattle.rusty_paseto_primitives.proofs.AesPlanes.{byte-bit, map_run-agree}
use Rattle.rusty_paseto_primitives.proofs.ByteLists.{IsBytes_cons, IsBytes-nil}
use Rattle.rusty_paseto_primitives.proofs.HmacLengths.{IsBytes-bytes_high_first}

-- a block of sixteen bytes, by its bits
pub block_plane : (s : List ℕ) → length s ≡ 16 → IsBytes s → plane (λ i b. bit (slice_index s i) b) ≡ s
unfolding plane
block_plane s size bytes =
    map_run-agree (λ i. byte (bit (slice_index s i))) (slice_index s) 0 16 (λ i low high. byte-bit (slice_index s i) (bytes i))
    ∙ ext_get_or 0 (map (slice_index s) (range_with_len 0 16)) s (omega arith)
    (λ i h. get_or-map-range_with_len (slice_index s) 0 16 i i 0 h (omega arith))

-- eight blocks in vectors
pub blocks_vectors : (s : ℕ → List ℕ) → ((j : ℕ) → length (s j) ≡ 16) → ((j : ℕ) → IsBytes (s j))
    → vectors 8 (λ j i b. bit (slice_index (s j) i) b) ≡ map s (range_with_len 0 8)
blocks_vectors s sizes bytes =
    map_run-agree (λ j. plane (λ i b. bit (slice_index (s j) i) b)) s 0 8 (λ j low high. block_plane (s j) (sizes j) (bytes j))

pub IsBytes-rounds : (w block : List ℕ) (n : ℕ) → IsBytes w → IsBytes block → IsBytes (rounds w block n)
unfolding rounds
IsBytes-rounds w block zero hw hb = IsBytes-add_round_key block (round_key w 0) hb (IsBytes-round_key w 0 hw)
IsBytes-rounds w block (suc n) hw hb =
    let s : List ℕ = sub_bytes (rounds w block n) in
    IsBytes-add_round_key (mix_columns (shift_rows s)) (round_key w (suc n))
    (IsBytes-mix_columns (shift_rows s) (IsBytes-shift_rows s (IsBytes-sub_bytes (rounds w block n)))) (IsBytes-round_key w (suc n) hw)

pub length-cipher : (w block : List ℕ) → length (cipher w block) ≡ 16
unfolding add_round_key cipher
length-cipher w block = refl

pub IsBytes-cipher : (w block : List ℕ) → IsBytes w → IsBytes (cipher w block)
unfolding cipher
IsBytes-cipher w block hw =
    let s : List ℕ = sub_bytes (rounds w block 13) in
    IsBytes-add_round_key (shift_rows s) (round_key w 14) (IsBytes-shift_rows s (IsBytes-sub_bytes (rounds w block 13))) (IsBytes-round_key w 14 hw)

pub IsBytes-counter : (n : ℕ) → IsBytes (to_be_bytes w128 n)
IsBytes-counter n = IsBytes-bytes_high_first 16 n

-- the round key in a vector that was read from the schedule
round_key_vector : (w : List ℕ) (n width : ℕ) → width ≡ 16 → length w ≡ 240 → IsBytes w → n < 15
    → take 16 (take width (drop (16 * n) w)) ≡ plane (λ i b. bit (slice_index (round_key w n) i) b)
round_key_vector w n width whole size bytes within =
    rw whole (take-take 16 16 (drop (16 * n) w) (omega arith))
    ∙ sym (block_plane (round_key w n) (length-take-le 16 (drop (16 * n) w) (omega (arith, length-drop (16 * n) w))) (IsBytes-round_key w n bytes))

-- one more round key in planes
pub round_keys_more : (w : List ℕ) (keys : List (List (List ℕ))) (key : List (List ℕ)) (n width : ℕ)
    → ((k : ℕ) → k < n → slice_index_or keys k [] ≡ planes (λ j. round_key w k)) → n < length keys → n < 15
    → width ≡ 16 → length w ≡ 240 → IsBytes w
    → ((f : ℕ → ℕ → Bool) → take 16 (take width (drop (16 * n) w)) ≡ plane f → key ≡ vectors 8 (λ b i j. f i b))
    → (k : ℕ) → k < n + 1 → slice_index_or (set keys n key) k [] ≡ planes (λ j. round_key w k)
round_keys_more w keys key n width before lt within whole size bytes made =
    let here : key ≡ planes (λ j. round_key w n) =
    made (λ i b. bit (slice_index (round_key w n) i) b) (round_key_vector w n width whole size bytes within) in
    below_more (λ k. slice_index_or (set keys n key) k [] ≡ planes (λ j. round_key w k)) n
    (λ k h. let ne : k ≢ n = omega arith in rw get_or-set_other (before k h)) (rw get_or-set_same here)

-- the lanes of a vector are bytes
pub IsBytes-lanes : (v : List ℕ) → Each1 (Fits w8) v → IsBytes v
IsBytes-lanes [] fits = IsBytes-nil
IsBytes-lanes (x ∷ xs) fits = IsBytes_cons x xs fits.0.fits (IsBytes-lanes xs fits.1)
