-- The keystream of XChaCha20 (draft-irtf-cfrg-xchacha, section 2.3). The number of a block has 64 bits,
-- in words 12 and 13, low half first: the draft has 32 bits and a word 13 of zero, which is the same
-- for the first 2 ^ 32 blocks.
use Rattle.std.specs.Prelude.{ℕ, ◌/◌, ◌%◌, ◌^◌, List, [], ◌∷◌, take, slice_index}
use Rattle.rusty_paseto_primitives.specs.Keystream.{stream_of_blocks}
use Rattle.rusty_paseto_primitives.specs.ChaCha.Block.{block_bytes, key_words, start_words, word_at}
use Rattle.rusty_paseto_primitives.specs.ChaCha.Subkey.{hchacha20}

-- the starting words of block number n, which is taken modulo 2 ^ 64, with these words of a key and words
-- 14 and 15
abbrev pub numbered : List ℕ → List ℕ → ℕ → List ℕ
numbered key tail n =
    start_words key (n % 2 ^ 32) (n / 2 ^ 32 % 2 ^ 32) (slice_index tail 0) (slice_index tail 1)

-- words 14 and 15: the last eight bytes of a nonce of 24
abbrev pub tail_words : List ℕ → List ℕ
tail_words nonce = word_at nonce 16 ∷ word_at nonce 20 ∷ []

-- the starting words of block number n
abbrev pub xchacha20_start : List ℕ → List ℕ → ℕ → List ℕ
xchacha20_start key nonce n = numbered (key_words (hchacha20 key (take 16 nonce))) (tail_words nonce) n

-- the byte at each place of the keystream of a key of 32 bytes and a nonce of 24
unfoldable pub xchacha20_stream : List ℕ → List ℕ → ℕ → ℕ
xchacha20_stream key nonce = stream_of_blocks 64 (λ n. block_bytes (xchacha20_start key nonce n))
