-- Blocks of 1024 bytes, and the compression function G (RFC 9106, section 3.5). A block is the list of its 128 words.
-- It is also a matrix of eight rows of eight registers, of two words each.
use Rattle.std.specs.Prelude.{ℕ, ◌+◌, ◌*◌, ◌/◌, ◌%◌, List, [], ◌∷◌, map, replicate, bit_xor, slice_index}
use Rattle.std.specs.List.{range_with_len}
use Rattle.rusty_paseto_primitives.specs.Blake2.Block.{word_at}
use Rattle.rusty_paseto_primitives.specs.Blake2.Keyed.{hash_bytes}
use Rattle.paseto_argon2.specs.Permutation.{permuted, row}

-- n words, each told by its place
abbrev pub listed : ℕ → (ℕ → ℕ) → List ℕ
listed n f = map f (range_with_len 0 n)

-- the exclusive or of two blocks
unfoldable pub xored : List ℕ → List ℕ → List ℕ
xored x y = listed 128 (λ k. bit_xor (slice_index x k) (slice_index y k))

-- row i of the matrix
abbrev pub row_words : List ℕ → ℕ → List ℕ
row_words x i = listed 16 (λ k. slice_index x (16 * i + k))

-- P on each row
unfoldable pub rows_permuted : List ℕ → List ℕ
rows_permuted x = listed 128 (λ k. slice_index (permuted (row_words x (k / 16))) (k % 16))

-- the matrix of registers with rows and columns exchanged: register j of row i is register i of row j
unfoldable pub transposed : List ℕ → List ℕ
transposed x = listed 128 (λ k. slice_index x (16 * (k % 16 / 2) + 2 * (k / 16) + k % 2))

-- P on each column
unfoldable pub columns_permuted : List ℕ → List ℕ
columns_permuted x = transposed (rows_permuted (transposed x))

-- G
unfoldable pub compressed : List ℕ → List ℕ → List ℕ
compressed x y =
    let r = xored x y in
    xored (columns_permuted (rows_permuted r)) r

-- the block of zeros
abbrev pub zero_block : List ℕ
zero_block = replicate 128 0

-- the block of 1024 bytes: each word has its low byte first
unfoldable pub block_of : List ℕ → List ℕ
block_of bytes = listed 128 (word_at bytes)

-- the bytes of a block
abbrev pub block_bytes : List ℕ → List ℕ
block_bytes x = hash_bytes x 128

-- How the code holds a block.

-- eight rows of the words f
abbrev pub rows : (ℕ → ℕ) → List (List (List ℕ))
rows f =
    row (λ k. f k) ∷ row (λ k. f (16 + k)) ∷ row (λ k. f (32 + k)) ∷ row (λ k. f (48 + k))
    ∷ row (λ k. f (64 + k)) ∷ row (λ k. f (80 + k)) ∷ row (λ k. f (96 + k)) ∷ row (λ k. f (112 + k)) ∷ []

-- the matrix of registers of a block
unfoldable pub registers : List ℕ → List (List (List ℕ))
registers x = rows (slice_index x)
