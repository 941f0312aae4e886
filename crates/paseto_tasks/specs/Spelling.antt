-- The line of a file that a token is, and how its spelling differs.
use Rattle.std.specs.Prelude.{◌≡◌, ℕ, ◌+◌, List, [], ◌∷◌, ◌++◌, Some, All, codes, decimal, take}
use Rattle.std.specs.List.{slice_get}
use Rattle.paseto_tasks.specs.declared.spelling.Spelling.{Spelling}
use Rattle.paseto_tasks.specs.declared.spelling.Spelling.TheVariants.{Same, Dotted, Undotted}

-- the line is the token, which is spelled so: both are one text, up to the dot before an empty footer
abbrev pub IsSpelled : List ℕ → List ℕ → List ℕ → Spelling → Type 0
IsSpelled footer token line Same = line ≡ token
IsSpelled footer token line Dotted = (footer ≡ []) × (token ≡ line ++ (46 ∷ []))
IsSpelled footer token line Undotted = (footer ≡ []) × (line ≡ token ++ (46 ∷ []))

-- the line is not the token
abbrev pub IsNoSpelling : List ℕ → List ℕ → List ℕ → Type 0
IsNoSpelling footer token line = (spelling : Spelling) → ¬ IsSpelled footer token line spelling

-- the line at a place from 0 is the token, and none before it is
pub record IsFirst (footer token : List ℕ) (lines : List (List ℕ)) (place : ℕ) (spelling : Spelling) : Type 0 where
  pub line : List ℕ
  pub is_there : slice_get lines place ≡ Some line
  pub spelled : IsSpelled footer token line spelling
  pub before : All (IsNoSpelling footer token) (take place lines)

-- what is printed of a spelling
abbrev pub spelling_text : Spelling → List ℕ
spelling_text Same = codes "the same"
spelling_text Dotted = codes "with a dot at the end, which the line lacks"
spelling_text Undotted = codes "without the dot at the end of the line"

-- what is printed of a token that was issued, in the line at a place from 0: lines are counted from 1
abbrev pub issued_text : ℕ → Spelling → List ℕ
issued_text place spelling = codes "issued: line " ++ (decimal (place + 1) ++ (codes "\nspelling: " ++ (spelling_text spelling ++ (10 ∷ []))))
