-- What a call for C asks of its arguments.
use Rattle.std.specs.Prelude.{⊤, ℕ, Bool, true, false, List, [], ◌∷◌, IsUtf8}

-- a footer or an implicit assertion of no bytes is none
abbrev pub has_bytes : List ℕ → Bool
has_bytes [] = false
has_bytes (_ ∷ _) = true

-- each of them is a text
abbrev pub AreUtf8 : List (List ℕ) → Type 0
AreUtf8 [] = ⊤
AreUtf8 (text ∷ more) = IsUtf8 text × AreUtf8 more
