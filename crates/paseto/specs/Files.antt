-- What the arguments name as an input.
use Rattle.std.specs.Prelude.{ℕ, List, [], ◌∷◌, Bool, true, false, ◌&&◌, ◌||◌, if◌then◌else◌, Option, None, Some, codes, map, nat_eq, option_map}
use Rattle.std.specs.Borrow.{Bor}
use Rattle.std.specs.Cmp.Lexicographic.{pointwise}

-- standard input: a hyphen, or no name
abbrev pub is_standard : Option (List ℕ) → Bool
is_standard None = true
is_standard (Some path) = pointwise nat_eq path (codes "-")

-- the name of an input in lines on standard error
abbrev pub input_name : Option (List ℕ) → List ℕ
input_name None = codes "standard input"
input_name (Some path) = if pointwise nat_eq path (codes "-") then codes "standard input" else path

-- the input as a file
abbrev pub input_file : Option (List ℕ) → Option (List ℕ)
input_file None = Some (codes "-")
input_file (Some path) = Some path

-- a file is standard input
abbrev pub is_hyphen : Option (List ℕ) → Bool
is_hyphen None = false
is_hyphen (Some path) = pointwise nat_eq path (codes "-")

abbrev pub some_hyphen : List (Option (List ℕ)) → Bool
some_hyphen [] = false
some_hyphen (file ∷ files) = is_hyphen file || some_hyphen files

-- standard input stands at two places of these
abbrev pub twice : List (Option (List ℕ)) → Bool
twice [] = false
twice (file ∷ files) = (is_hyphen file && some_hyphen files) || twice files

-- files, as texts
abbrev pub all_texts : List (Option (Bor (List ℕ))) → List (Option (List ℕ))
all_texts files = map (λ file. option_map (λ path. path.now) file) files
