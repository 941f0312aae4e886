-- The framing of a token, which is the same for all versions and purposes: a header, the payload's
-- section, and the footer's with the dot before it, where it is written (PASETO specification, "PASETO
-- Message Format").
use Rattle.std.specs.Prelude.{◌≡◌, ◌⊎◌, ℕ, Bool, true, false, List, [], ◌∷◌, ◌++◌}
use Rattle.rusty_paseto_parts.specs.Section.{HasNoDot, base64url}

-- the footer's section with the dot before it, where it is written
unfoldable pub footer_part : Bool → List ℕ → List ℕ
footer_part true footer = 46 ∷ base64url footer
footer_part false footer = []

-- a header, the payload's section, and the footer's where it is written
unfoldable pub framing : List ℕ → List ℕ → Bool → List ℕ → List ℕ
framing header payload written footer = header ++ base64url payload ++ footer_part written footer

-- a header is a version's text and a purpose's, each with a dot after it
pub record IsHeader (version purpose header : List ℕ) : Type 0 where
  pub plain_version : HasNoDot version
  pub plain_purpose : HasNoDot purpose
  pub text : header ≡ version ++ (46 ∷ (purpose ++ (46 ∷ [])))

-- one text, up to the dot before the section of an empty footer
abbrev pub SameUpToDot : List ℕ → List ℕ → List ℕ → Type 0
SameUpToDot footer first second =
    (first ≡ second) ⊎ ((footer ≡ []) × ((first ≡ second ++ 46 ∷ []) ⊎ (second ≡ first ++ 46 ∷ [])))
