-- A keystream is a function from a place to the byte there. Data is encrypted, and decrypted, by the
-- exclusive or with the keystream, byte by byte.
use Rattle.std.specs.Prelude.{ℕ, ◌+◌, ◌/◌, ◌%◌, List, [], ◌∷◌, bit_xor, slice_index}

-- the exclusive or of each byte with the keystream, where the first byte stands at place i
unfoldable pub xored_from : (ℕ → ℕ) → ℕ → List ℕ → List ℕ
xored_from stream i [] = []
xored_from stream i (b ∷ bs) = bit_xor b (stream i) ∷ xored_from stream (i + 1) bs

-- the exclusive or of the bytes with the front of the keystream
unfoldable pub xored : (ℕ → ℕ) → List ℕ → List ℕ
xored stream bytes = xored_from stream 0 bytes

-- the keystream of blocks of `size` bytes, one after another: block 0, block 1, and so on
abbrev pub stream_of_blocks : ℕ → (ℕ → List ℕ) → ℕ → ℕ
stream_of_blocks size block i = slice_index (block (i / size)) (i % size)
