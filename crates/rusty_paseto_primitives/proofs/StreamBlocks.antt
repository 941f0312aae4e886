-- The keystream of XChaCha20.
use Rattle.std.proofs.Common.{◌≡◌, ℕ, ◌+◌, ◌-◌, ◌*◌, ◌/◌, ◌%◌, ◌<◌, ◌^◌, List, ◌++◌, length, take, drop, slice_index, refl, ap, ◌∙◌, arith}
use Rattle.rusty_paseto_primitives.specs.Keystream.{xored, xored_from, stream_of_blocks}
use Rattle.rusty_paseto_primitives.specs.ChaCha.Block.{block_bytes, key_words}
use Rattle.rusty_paseto_primitives.specs.ChaCha.Lanes.{quarters}
use Rattle.rusty_paseto_primitives.specs.ChaCha.Stream.{numbered, tail_words, xchacha20_start, xchacha20_stream}
use Rattle.rusty_paseto_primitives.specs.ChaCha.Subkey.{hchacha20}
use Rattle.rusty_paseto_primitives.proofs.BlockBytes.{IsBytes-block_bytes}
use Rattle.rusty_paseto_primitives.proofs.Xored.{xored_from-agree, xored_in_two}
use Rattle.rusty_paseto_primitives.proofs.Quarters.{quarters-agree, stream_after_groups}

-- the keystream is of bytes
pub xchacha20_stream-lt : (key nonce : List ℕ) (i : ℕ) → xchacha20_stream key nonce i < 256
unfolding xchacha20_stream
xchacha20_stream-lt key nonce i = IsBytes-block_bytes (xchacha20_start key nonce (i / 64)) (i % 64)

-- the stream of the blocks from number a on
stream_from_block : (block : ℕ → List ℕ) (a i : ℕ)
    → stream_of_blocks 64 (λ n. block (a + n)) (0 + i) ≡ stream_of_blocks 64 block (64 * a + i)
stream_from_block block a i =
    let number : a + (0 + i) / 64 ≡ (64 * a + i) / 64 = omega arith in
    let place : (0 + i) % 64 ≡ (64 * a + i) % 64 = omega arith in
    ap (λ (n : ℕ). slice_index (block n) ((0 + i) % 64)) number ∙ ap (slice_index (block ((64 * a + i) / 64))) place

-- a block's number is taken modulo 2 ^ 64
pub numbered-wraps : (key tail : List ℕ) (first count n j : ℕ) → n ≡ (first + count) % 2 ^ 64
    → numbered key tail (n + j) ≡ numbered key tail (first + (count + j))
numbered-wraps key tail first count n j n-is =
    let low : (n + j) % 2 ^ 32 ≡ (first + (count + j)) % 2 ^ 32 = omega arith in
    let high : (n + j) / 2 ^ 32 % 2 ^ 32 ≡ (first + (count + j)) / 2 ^ 32 % 2 ^ 32 = omega arith in
    rw (low, high) refl

-- four blocks in vectors, from a number on that is taken modulo 2 ^ 64
pub quarters-wrap : (key tail : List ℕ) (first count n : ℕ) (v : List (List ℕ)) → n ≡ (first + count) % 2 ^ 64
    → v ≡ quarters (λ j. block_bytes (numbered key tail (n + j)))
    → v ≡ quarters (λ j. block_bytes (numbered key tail (first + (count + j))))
quarters-wrap key tail first count n v n-is made =
    made ∙ quarters-agree (λ j. block_bytes (numbered key tail (n + j))) (λ j. block_bytes (numbered key tail (first + (count + j))))
    (λ j. ap block_bytes (numbered-wraps key tail first count n j n-is))

-- data whose whole groups are xored, and then the blocks after them, from block number `first` on
pub xored_by_groups : (key nonce subkey tail old front back : List ℕ) (first g rest : ℕ)
    → subkey ≡ key_words (hchacha20 key (take 16 nonce)) → tail ≡ tail_words nonce → g ≡ length old / 256
    → rest ≡ (first + 4 * g) % 2 ^ 64
    → front ≡ xored (stream_of_blocks 64 (λ n. block_bytes (numbered subkey tail (first + n)))) (take (256 * g) old)
    → let now = front ++ drop (256 * g) old in
    back ≡ xored (stream_of_blocks 64 (λ n. block_bytes (numbered subkey tail (rest + n)))) (take (length now - 256 * g) (drop (256 * g) now))
    → take (256 * g) now ++ (back ++ drop (length now - 256 * g) (drop (256 * g) now))
    ≡ xored_from (xchacha20_stream key nonce) (64 * first) old
unfolding xchacha20_stream xored
xored_by_groups key nonce subkey tail old front back first g rest subkey-is tail-is g-is rest-is front-is back-is =
    let all : ℕ → List ℕ = λ n. block_bytes (numbered subkey tail n) in
    let block : ℕ → List ℕ = λ n. all (first + n) in
    let after : ℕ → List ℕ = λ n. all (rest + n) in
    let goes_on : (i : ℕ) → stream_of_blocks 64 after i ≡ stream_of_blocks 64 block (256 * g + i) =
    λ i. ap (λ (b : List ℕ). slice_index b (i % 64)) (ap block_bytes (numbered-wraps subkey tail first (4 * g) rest (i / 64) rest-is))
    ∙ stream_after_groups block g i in
    xored_in_two (stream_of_blocks 64 block) (stream_of_blocks 64 after) (256 * g) old front back (omega arith)
    front-is goes_on back-is
    ∙ xored_from-agree (stream_of_blocks 64 block) (stream_of_blocks 64 all) 0 (64 * first) old (λ i h. stream_from_block all first i)
    ∙ ap (λ (k : List ℕ). xored_from (stream_of_blocks 64 (λ n. block_bytes (numbered k tail n))) (64 * first) old) subkey-is
    ∙ ap (λ (t : List ℕ). xored_from (stream_of_blocks 64 (λ n. block_bytes (numbered (key_words (hchacha20 key (take 16 nonce))) t n))) (64 * first) old) tail-is
