-- The ChaCha20 block function (RFC 8439, sections 2.1 to 2.3). A word is a number below 2 ^ 32.
use Rattle.std.specs.Prelude.{ℕ, zero, suc, ◌+◌, ◌%◌, ◌^◌, List, [], ◌∷◌, bit_xor, slice_index}
use Rattle.std.specs.List.{flat_map}
use Rattle.std.specs.Int.{w32, rotate_left, from_le_bytes, to_le_bytes}

-- the sum of two words modulo 2 ^ 32
abbrev pub add32 : ℕ → ℕ → ℕ
add32 x y = (x + y) % 2 ^ 32

-- x ^= y; x <<<= k
abbrev pub xor_rotate : ℕ → ℕ → ℕ → ℕ
xor_rotate x y k = rotate_left w32 (bit_xor x y) k

-- the quarter round (2.1)
unfoldable pub quarter_round : ℕ → ℕ → ℕ → ℕ → ℕ × ℕ × ℕ × ℕ
quarter_round a b c d =
    let a1 = add32 a b in
    let d1 = xor_rotate d a1 16 in
    let c1 = add32 c d1 in
    let b1 = xor_rotate b c1 12 in
    let a2 = add32 a1 b1 in
    let d2 = xor_rotate d1 a2 8 in
    let c2 = add32 c1 d2 in
    let b2 = xor_rotate b1 c2 7 in
    (a2, b2, c2, d2)

-- the quarter round on four words of a state (2.2)
abbrev pub quarter_round_at : List ℕ → ℕ → ℕ → ℕ → ℕ → ℕ × ℕ × ℕ × ℕ
quarter_round_at x a b c d =
    quarter_round (slice_index x a) (slice_index x b) (slice_index x c) (slice_index x d)

-- the quarter round on a list of four words
abbrev pub quarter_round_of : List ℕ → List ℕ
quarter_round_of x = let q = quarter_round_at x 0 1 2 3 in q.0 ∷ q.1 ∷ q.2 ∷ q.3 ∷ []

-- the quarter round on each column of the state, read as four rows of four words (2.3)
unfoldable pub column_round : List ℕ → List ℕ
column_round x =
    let q0 = quarter_round_at x 0 4 8 12 in
    let q1 = quarter_round_at x 1 5 9 13 in
    let q2 = quarter_round_at x 2 6 10 14 in
    let q3 = quarter_round_at x 3 7 11 15 in
    q0.0 ∷ q1.0 ∷ q2.0 ∷ q3.0
    ∷ q0.1 ∷ q1.1 ∷ q2.1 ∷ q3.1
    ∷ q0.2 ∷ q1.2 ∷ q2.2 ∷ q3.2
    ∷ q0.3 ∷ q1.3 ∷ q2.3 ∷ q3.3 ∷ []

-- the quarter round on each diagonal (2.3)
unfoldable pub diagonal_round : List ℕ → List ℕ
diagonal_round x =
    let q0 = quarter_round_at x 0 5 10 15 in
    let q1 = quarter_round_at x 1 6 11 12 in
    let q2 = quarter_round_at x 2 7 8 13 in
    let q3 = quarter_round_at x 3 4 9 14 in
    q0.0 ∷ q1.0 ∷ q2.0 ∷ q3.0
    ∷ q3.1 ∷ q0.1 ∷ q1.1 ∷ q2.1
    ∷ q2.2 ∷ q3.2 ∷ q0.2 ∷ q1.2
    ∷ q1.3 ∷ q2.3 ∷ q3.3 ∷ q0.3 ∷ []

-- the state after n double rounds
unfoldable pub double_rounds : ℕ → List ℕ → List ℕ
double_rounds zero x = x
double_rounds (suc n) x = diagonal_round (column_round (double_rounds n x))

-- the word that four bytes from place i on are, low byte first
abbrev pub word_at : List ℕ → ℕ → ℕ
word_at bytes i = from_le_bytes w32
    (slice_index bytes i ∷ slice_index bytes (i + 1) ∷ slice_index bytes (i + 2) ∷ slice_index bytes (i + 3) ∷ [])

-- the eight words of a key
abbrev pub key_words : List ℕ → List ℕ
key_words key =
    word_at key 0 ∷ word_at key 4 ∷ word_at key 8 ∷ word_at key 12
    ∷ word_at key 16 ∷ word_at key 20 ∷ word_at key 24 ∷ word_at key 28 ∷ []

-- the sixteen starting words: the constants, the words of the key, and words 12 to 15 (2.3)
abbrev pub start_words : List ℕ → ℕ → ℕ → ℕ → ℕ → List ℕ
start_words key t0 t1 t2 t3 =
    0x61707865 ∷ 0x3320646e ∷ 0x79622d32 ∷ 0x6b206574
    ∷ slice_index key 0 ∷ slice_index key 1 ∷ slice_index key 2 ∷ slice_index key 3
    ∷ slice_index key 4 ∷ slice_index key 5 ∷ slice_index key 6 ∷ slice_index key 7
    ∷ t0 ∷ t1 ∷ t2 ∷ t3 ∷ []

-- the starting words of a key and the bytes of words 12 to 15
abbrev pub start_of : List ℕ → List ℕ → List ℕ
start_of key tail = start_words (key_words key) (word_at tail 0) (word_at tail 4) (word_at tail 8) (word_at tail 12)

-- word k of the block with these starting words: twenty rounds, plus the starting word (2.3)
unfoldable pub block_word : List ℕ → ℕ → ℕ
block_word start k = add32 (slice_index (double_rounds 10 start) k) (slice_index start k)

-- the sixteen words of a block
abbrev pub block_words : List ℕ → List ℕ
block_words x =
    block_word x 0 ∷ block_word x 1 ∷ block_word x 2 ∷ block_word x 3
    ∷ block_word x 4 ∷ block_word x 5 ∷ block_word x 6 ∷ block_word x 7
    ∷ block_word x 8 ∷ block_word x 9 ∷ block_word x 10 ∷ block_word x 11
    ∷ block_word x 12 ∷ block_word x 13 ∷ block_word x 14 ∷ block_word x 15 ∷ []

-- the bytes of some words, each word low byte first
abbrev pub serialized : List ℕ → List ℕ
serialized words = flat_map (to_le_bytes w32) words

-- the 64 bytes of the block with these starting words
unfoldable pub block_bytes : List ℕ → List ℕ
block_bytes start = serialized (block_words start)

-- the block of a key and the bytes of words 12 to 15, the counter and the nonce (2.3)
abbrev pub chacha20_block : List ℕ → List ℕ → List ℕ
chacha20_block key tail = block_bytes (start_of key tail)
