-- The ends of base64 texts.
use Rattle.std.proofs.Common.{◌≡◌, ℕ, ◌*◌, ◌+◌, ◌/◌, ◌%◌, ◌<◌, ◌≤◌, List, [], ◌∷◌, ◌++◌, drop, length, slice_index, refl, arith}
use Rattle.base64.specs.GeneralPurpose.{encode_of}
use Rattle.base64.specs.Rfc4648.{encode_group, encode_symbols, padding_len}
use Rattle.paseto_base64.specs.declared.alphabet.Alphabet.{Alphabet}
use Rattle.paseto_base64.specs.declared.alphabet.Alphabet.TheVariants.{Standard, UrlSafe}
use Rattle.paseto_base64.specs.Alphabet.{engine, padding_of, symbols}

-- no bytes have no characters
pub no_end : (alphabet : Alphabet) → encode_of (engine alphabet) [] ≡ []
unfolding encode_symbols
no_end Standard = refl
no_end UrlSafe = refl

pub standard_one : (one : ℕ) → encode_of (engine Standard) (one ∷ [])
    ≡ slice_index (symbols Standard) (one / 4) ∷ slice_index (symbols Standard) (one % 4 * 16) ∷ 61 ∷ 61 ∷ []
unfolding encode_symbols
standard_one one = refl

pub url_safe_one : (one : ℕ) → encode_of (engine UrlSafe) (one ∷ [])
    ≡ slice_index (symbols UrlSafe) (one / 4) ∷ slice_index (symbols UrlSafe) (one % 4 * 16) ∷ []
unfolding encode_symbols
url_safe_one one = refl

pub standard_two : (one two : ℕ) → encode_of (engine Standard) (one ∷ two ∷ [])
    ≡ slice_index (symbols Standard) (one / 4) ∷ slice_index (symbols Standard) (one % 4 * 16 + two / 16)
    ∷ slice_index (symbols Standard) (two % 16 * 4) ∷ 61 ∷ []
unfolding encode_symbols
standard_two one two = refl

pub url_safe_two : (one two : ℕ) → encode_of (engine UrlSafe) (one ∷ two ∷ [])
    ≡ slice_index (symbols UrlSafe) (one / 4) ∷ slice_index (symbols UrlSafe) (one % 4 * 16 + two / 16)
    ∷ slice_index (symbols UrlSafe) (two % 16 * 4) ∷ []
unfolding encode_symbols
url_safe_two one two = refl

-- the characters of a last byte, and those of two
pub one_end : (alphabet : Alphabet) (one : ℕ) → encode_of (engine alphabet) (one ∷ [])
    ≡ slice_index (symbols alphabet) (one / 4) ∷ slice_index (symbols alphabet) (one % 4 * 16) ∷ padding_of alphabet (61 ∷ 61 ∷ [])
one_end Standard one = standard_one one
one_end UrlSafe one = url_safe_one one

pub two_end : (alphabet : Alphabet) (one two : ℕ) → encode_of (engine alphabet) (one ∷ two ∷ [])
    ≡ slice_index (symbols alphabet) (one / 4) ∷ slice_index (symbols alphabet) (one % 4 * 16 + two / 16)
    ∷ slice_index (symbols alphabet) (two % 16 * 4) ∷ padding_of alphabet (61 ∷ [])
two_end Standard one two = standard_two one two
two_end UrlSafe one two = url_safe_two one two

-- a list shorter than one has nothing
pub none_left : (rest : List ℕ) → length rest < 1 → rest ≡ []
none_left [] short = refl
none_left (x ∷ rest) short = absurd (omega arith)

-- three bytes in front of others are their group in front of the others' characters
pub group_first : (alphabet : Alphabet) (bytes : List ℕ) → 3 ≤ length bytes
    → encode_of (engine alphabet) bytes ≡ encode_group (symbols alphabet) (slice_index bytes 0) (slice_index bytes 1) (slice_index bytes 2)
    ++ encode_of (engine alphabet) (drop 3 bytes)
unfolding encode_symbols
group_first alphabet [] long = absurd (omega arith)
group_first alphabet (a ∷ []) long = absurd (omega arith)
group_first alphabet (a ∷ b ∷ []) long = absurd (omega arith)
group_first Standard (a ∷ b ∷ c ∷ rest) long =
    let same : padding_len (length (a ∷ b ∷ c ∷ rest)) ≡ padding_len (length rest) = omega arith in
    rw same refl
group_first UrlSafe (a ∷ b ∷ c ∷ rest) long = refl
