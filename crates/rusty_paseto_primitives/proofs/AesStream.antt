-- The keystream of counter mode, by groups of eight blocks.
use Rattle.std.proofs.Common.{◌≡◌, ℕ, ◌+◌, ◌-◌, ◌*◌, ◌/◌, ◌%◌, ◌^◌, ◌<◌, List, [], ◌++◌, length, map, take, drop, slice_index, slice_index_or, refl, ap, ap₂, ◌∙◌, arith}
use Rattle.std.specs.Int.{w128, from_be_bytes, to_be_bytes}
use Rattle.std.specs.List.{range_with_len}
use Rattle.std.proofs.lemmas.List.FromFn.{get_or-map-range_with_len}
use Rattle.rusty_paseto_primitives.specs.Keystream.{xored, stream_of_blocks}
use Rattle.rusty_paseto_primitives.specs.Aes.Cipher.{aes256, cipher}
use Rattle.rusty_paseto_primitives.specs.Aes.Counter.{aes256_ctr_stream}
use Rattle.rusty_paseto_primitives.specs.Aes.KeySchedule.{key_expansion}
use Rattle.rusty_paseto_primitives.proofs.AesGroups.{length-cipher}
use Rattle.rusty_paseto_primitives.proofs.Xored.{xored_in_two}

-- block n of the keystream of a schedule, from the counter `start` on
abbrev pub counter_block_of : List ℕ → ℕ → ℕ → List ℕ
counter_block_of w start n = cipher w (to_be_bytes w128 ((start + n) % 2 ^ 128))

-- a group of eight blocks in vectors
abbrev pub IsGroup : List ℕ → ℕ → List (List ℕ) → Type 0
IsGroup w start vectors = vectors ≡ map (counter_block_of w start) (range_with_len 0 8)

group-at : (w : List ℕ) (start : ℕ) (v : List (List ℕ)) (p : ℕ) → IsGroup w start v → p < 8
    → slice_index_or v p [] ≡ counter_block_of w start p
group-at w start v p e lt =
    ap (λ (x : List (List ℕ)). slice_index_or x p []) e
    ∙ get_or-map-range_with_len (counter_block_of w start) 0 8 p p [] lt (omega arith)

-- each vector has sixteen lanes
pub length-group : (w : List ℕ) (start : ℕ) (v : List (List ℕ)) → IsGroup w start v → (p : ℕ) → p < length v → length (slice_index_or v p []) ≡ 16
length-group w start v e p lt =
    let count : length v ≡ 8 = ap length e in
    ap length (group-at w start v p e (omega arith)) ∙ length-cipher w (to_be_bytes w128 ((start + p) % 2 ^ 128))

-- a later counter, and the block there
later : (w : List ℕ) (start next g i : ℕ) → next ≡ (start + 8 * g) % 2 ^ 128
    → slice_index (counter_block_of w next (i / 16)) (i % 16)
    ≡ stream_of_blocks 16 (counter_block_of w start) (128 * g + i)
later w start next g i e =
    let number : (next + i / 16) % 2 ^ 128 ≡ (start + (128 * g + i) / 16) % 2 ^ 128 = omega arith in
    let place : i % 16 ≡ (128 * g + i) % 16 = omega arith in
    ap₂ (λ (n k : ℕ). slice_index (cipher w (to_be_bytes w128 n)) k) number place

-- the stream from a later counter on
pub stream_from : (w : List ℕ) (start next g : ℕ) → next ≡ (start + 8 * g) % 2 ^ 128 → (i : ℕ)
    → stream_of_blocks 16 (counter_block_of w next) i ≡ stream_of_blocks 16 (counter_block_of w start) (128 * g + i)
stream_from w start next g e i = later w start next g i e

-- the stream of the vectors is the blocks' stream
pub group-stream : (w : List ℕ) (start next g : ℕ) (v : List (List ℕ)) → IsGroup w next v → next ≡ (start + 8 * g) % 2 ^ 128
    → (i : ℕ) → i < 128
    → stream_of_blocks 16 (λ p. slice_index_or v p []) i ≡ stream_of_blocks 16 (counter_block_of w start) (128 * g + i)
group-stream w start next g v e f i lt =
    ap (λ (b : List ℕ). slice_index b (i % 16)) (group-at w next v (i / 16) e (omega arith)) ∙ later w start next g i f

-- data whose whole groups are xored, and then the rest
pub xored_by_groups : (key counter w old front back : List ℕ) (start g : ℕ) → w ≡ key_expansion key → start ≡ from_be_bytes w128 counter
    → g ≡ length old / 128 → front ≡ xored (stream_of_blocks 16 (counter_block_of w start)) (take (128 * g) old)
    → let now = front ++ drop (128 * g) old in
    back ≡ xored (stream_of_blocks 16 (counter_block_of w ((start + 8 * g) % 2 ^ 128))) (take (length now - 128 * g) (drop (128 * g) now))
    → take (128 * g) now ++ (back ++ drop (length now - 128 * g) (drop (128 * g) now)) ≡ xored (aes256_ctr_stream key counter) old
unfolding aes256 aes256_ctr_stream
xored_by_groups key counter w old front back start g w-is start-is g-is front-is back-is =
    xored_in_two (stream_of_blocks 16 (counter_block_of w start)) (stream_of_blocks 16 (counter_block_of w ((start + 8 * g) % 2 ^ 128)))
    (128 * g) old front back (omega arith) front-is (stream_from w start ((start + 8 * g) % 2 ^ 128) g refl) back-is
    ∙ ap₂ (λ (v : List ℕ) (n : ℕ). xored (stream_of_blocks 16 (counter_block_of v n)) old) w-is start-is
