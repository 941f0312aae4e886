-- HChaCha20 (draft-irtf-cfrg-xchacha, section 2.2).
use Rattle.std.specs.Prelude.{List, [], ◌∷◌, ℕ, slice_index}
use Rattle.rusty_paseto_primitives.specs.ChaCha.Block.{double_rounds, serialized, start_of}

-- the first four and the last four of sixteen words
abbrev pub outer_words : List ℕ → List ℕ
outer_words x =
    slice_index x 0 ∷ slice_index x 1 ∷ slice_index x 2 ∷ slice_index x 3
    ∷ slice_index x 12 ∷ slice_index x 13 ∷ slice_index x 14 ∷ slice_index x 15 ∷ []

-- the subkey of a key and 16 bytes of nonce: twenty rounds, with nothing added after them
unfoldable pub hchacha20 : List ℕ → List ℕ → List ℕ
hchacha20 key nonce = serialized (outer_words (double_rounds 10 (start_of key nonce)))
