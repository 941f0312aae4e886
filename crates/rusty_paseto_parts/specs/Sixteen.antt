-- Characters of a section, sixteen at once.
use Rattle.std.specs.Prelude.{ℕ, List, [], ◌∷◌, slice_index}
use Rattle.base64.specs.Engines.{url_safe_no_pad}

-- the sixteen numbers that f gives
abbrev pub sixteen : (ℕ → ℕ) → List ℕ
sixteen f =
    f 0 ∷ f 1 ∷ f 2 ∷ f 3 ∷ f 4 ∷ f 5 ∷ f 6 ∷ f 7 ∷ f 8 ∷ f 9 ∷ f 10 ∷ f 11 ∷ f 12 ∷ f 13 ∷ f 14 ∷ f 15 ∷ []

-- the value of a character of base64url, and 255 where it is none (RFC 4648, section 5)
unfoldable pub value : ℕ → ℕ
value c = slice_index url_safe_no_pad.decode_table c
