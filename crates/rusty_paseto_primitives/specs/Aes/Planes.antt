-- Eight blocks of sixteen bytes at once, in eight planes: bit j of byte i of plane b is bit b of byte i of
-- block j.
use Rattle.std.specs.Prelude.{◌≡◌, ℕ, ◌<◌, ◌+◌, ◌-◌, ◌/◌, ◌%◌, Bool, true, false, not, ◌&&◌, if◌then◌else◌, nat_eq, List, [], map, slice_index, slice_index_or}
use Rattle.std.specs.Int.{bit_at}
use Rattle.std.specs.List.{range_with_len}
use Rattle.std.specs.Simd.Lanes.{mask_l}
use Rattle.rusty_paseto_primitives.specs.Aes.Field.{xtimes}
use Rattle.rusty_paseto_primitives.specs.Aes.KeySchedule.{round_key}
use Rattle.rusty_paseto_primitives.specs.Aes.State.{at, state_of}
use Rattle.rusty_paseto_primitives.specs.Aes.Circuit.{Gate, output}

-- whether bit b of a number is set
abbrev pub bit : ℕ → ℕ → Bool
bit x b = nat_eq (bit_at x b) 1

-- the exclusive or of two bits
abbrev pub differ : Bool → Bool → Bool
differ true b = not b
differ false b = b

-- the byte of these bits, the lowest first
unfoldable pub byte : (ℕ → Bool) → ℕ
byte f = mask_l (map f (range_with_len 0 8))

-- the sixteen bytes of which f tells byte i's bit j
unfoldable pub plane : (ℕ → ℕ → Bool) → List ℕ
plane f = map (λ i. byte (f i)) (range_with_len 0 16)

-- the n vectors of which f tells the k-th
abbrev pub vectors : ℕ → (ℕ → ℕ → ℕ → Bool) → List (List ℕ)
vectors n f = map (λ k. plane (f k)) (range_with_len 0 n)

-- the planes of eight blocks
abbrev pub planes : (ℕ → List ℕ) → List (List ℕ)
planes s = vectors 8 (λ b i j. bit (slice_index (s j) i) b)

-- eight blocks, one in each vector
abbrev pub block_vectors : (ℕ → List ℕ) → List (List ℕ)
block_vectors s = vectors 8 (λ j i b. bit (slice_index (s j) i) b)

-- what stands in the first of two vectors, and in the second, after each run of k bits at an odd place of the
-- first is exchanged with the run before it of the second
abbrev pub front : ℕ → (ℕ → ℕ → Bool) → (ℕ → ℕ → Bool) → ℕ → ℕ → Bool
front k f g i p = if nat_eq (p / k % 2) 0 then f i p else g i (p - k)

abbrev pub back : ℕ → (ℕ → ℕ → Bool) → (ℕ → ℕ → Bool) → ℕ → ℕ → Bool
back k f g i p = if nat_eq (p / k % 2) 0 then f i (p + k) else g i p

abbrev pub exchanged : ℕ → (ℕ → ℕ → Bool) → (ℕ → ℕ → Bool) → List ℕ × List ℕ
exchanged k f g = (plane (front k f g), plane (back k f g))

-- bit b of each byte, for all eight blocks
abbrev pub bit_plane : (ℕ → ℕ → Bool) → ℕ → List ℕ
bit_plane f b = plane (λ i j. f i b)

-- a block whose columns are turned up by k rows
unfoldable pub turned : ℕ → List ℕ → List ℕ
turned k s = state_of (λ row column. at s ((row + k) % 4) column)

-- a block whose bytes are multiplied by x
unfoldable pub doubled : List ℕ → List ℕ
doubled s = state_of (λ row column. xtimes (at s row column))

-- output k of some gates on planes, as the bits that these tell
abbrev pub bits_of_gates : List Gate → List ℕ → List (ℕ → ℕ → Bool) → ℕ → ℕ → ℕ → Bool
bits_of_gates gates places values =
    output (λ f g i j. differ (f i j) (g i j)) (λ f g i j. f i j && g i j) (λ i j. false) gates places values

-- the round keys of a schedule, each in the planes of eight blocks
abbrev pub AreRoundKeys : List (List (List ℕ)) → List ℕ → Type 0
AreRoundKeys keys w = (n : ℕ) → n < 15 → slice_index_or keys n [] ≡ planes (λ j. round_key w n)
