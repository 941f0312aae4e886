-- The command `inspect`.
use Rattle.std.specs.Prelude.{◌≡◌, ℕ, List, [], ◌∷◌, ◌++◌, Option, Some, codes, get_or, ⊤}
use Rattle.std.specs.List.{slice_get}
use Rattle.rusty_paseto_parts.specs.Section.{HasCount, sections}
use Rattle.rusty_paseto_parts.specs.UntrustedToken.{HasFooterText, IsTokenFooterFault}
use Rattle.paseto_tool.specs.declared.error.ToolError.{ToolError}
use Rattle.paseto_tool.specs.declared.error.ToolError.TheVariants.{Refused, Memory}

-- a line of a name and what stands there
abbrev pub line : List ℕ → List ℕ → List ℕ
line name value = name ++ value ++ (10 ∷ [])

-- the lines of the footer's section and its text
abbrev pub footer_lines : Option (List ℕ) → Option (List ℕ) → List ℕ
footer_lines (Some section) (Some text) = line (codes "footer: ") section ++ line (codes "footer text: ") text
footer_lines _ _ = line (codes "footer: ") (codes "none")

-- the lines of a token's sections and of its footer's text
abbrev pub lines_of : List (List ℕ) → Option (List ℕ) → List ℕ
lines_of parts text =
    line (codes "version: ") (get_or parts 0 []) ++ line (codes "purpose: ") (get_or parts 1 [])
    ++ footer_lines (slice_get parts 3) text

-- the lines that are printed of a token
pub record Inspects (token lines : List ℕ) : Type 0 where
  pub count : HasCount (sections token)
  pub text : Option (List ℕ)
  pub has_text : HasFooterText (slice_get (sections token) 3) text
  pub lines_are : lines ≡ lines_of (sections token) text

-- why nothing is printed of a token: its sections or its footer, or a failed allocation
abbrev pub IsInspectionReason : List ℕ → ToolError → Type 0
IsInspectionReason token (Refused error) = IsTokenFooterFault (sections token) error
IsInspectionReason token (Memory _) = ⊤
IsInspectionReason token _ = ⊥
