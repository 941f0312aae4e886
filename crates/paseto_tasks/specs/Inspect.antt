-- The command `inspect`.
pub mod Key
use Rattle.std.specs.Prelude.{◌≡◌, ◌⊎◌, ℕ, ◌≤◌, ◌-◌, List, [], ◌∷◌, ◌++◌, Bool, true, false, if◌then◌else◌, take, length, nat_eq, Option, None, Some, codes, IsUtf8}
use Rattle.std.specs.List.{slice_get}
use Rattle.std.specs.Cmp.Lexicographic.{pointwise}
use Rattle.base64.specs.GeneralPurpose.{IsBytes}
use Rattle.rusty_paseto_parts.specs.Section.{HasCount, sections, base64url}
use Rattle.rusty_paseto_parts.specs.UntrustedToken.{HasFooterText}
use Rattle.paseto_tasks.specs.declared.error.ProgramError.{ProgramError}
use Rattle.paseto_tasks.specs.Error.{IsPlain}
use Rattle.paseto_tasks.specs.Input.{IsNoText, inspected_text, uncommented}
use Rattle.paseto_tasks.specs.Inspect.Key.{BeginsAsNone, InspectsKey}
use Rattle.paseto_tasks.specs.TokenKind.{NamesKind}
use Rattle.paseto_tasks.specs.declared.token_kind.TokenKind.TheVariants.{Other}

-- a line of a name and what stands there
abbrev pub line : List ℕ → List ℕ → List ℕ
line name value = name ++ value ++ (10 ∷ [])

-- the line of the footer
abbrev pub footer_line : Option (List ℕ) → List ℕ
footer_line (Some text) = line (codes "footer: ") text
footer_line None = codes "no footer\n"

-- how many bytes the signature of a public token of a version has
abbrev pub signature_length : List ℕ → ℕ
signature_length version =
    if pointwise nat_eq version (codes "v1") then 256
    else if pointwise nat_eq version (codes "v3") then 96
    else 64

-- the lines of what a public token says, which stands in front of its signature
pub record SaysText (version section lines : List ℕ) : Type 0 where
  pub payload : List ℕ
  pub text : List ℕ
  pub bytes : IsBytes payload
  pub spelled : section ≡ base64url payload
  pub room : signature_length version ≤ length payload
  pub text_is : text ≡ take (length payload - signature_length version) payload
  pub utf8 : IsUtf8 text
  pub lines_are : lines ≡ line (codes "text, not verified: ") text

-- a local token says nothing of what it holds
abbrev pub IsTextLine : Bool → List ℕ → List ℕ → List ℕ → Type 0
IsTextLine true version section lines = SaysText version section lines
IsTextLine false version section lines = lines ≡ codes "text: encrypted\n"

-- the lines that are printed of a token
pub record InspectsToken (token lines : List ℕ) : Type 0 where
  pub version : List ℕ
  pub purpose : List ℕ
  pub payload : List ℕ
  pub footer : Option (List ℕ)
  pub text_line : List ℕ
  pub utf8 : IsUtf8 token
  pub count : HasCount (sections token)
  pub has_version : slice_get (sections token) 0 ≡ Some version
  pub has_purpose : slice_get (sections token) 1 ≡ Some purpose
  pub has_payload : slice_get (sections token) 2 ≡ Some payload
  pub has_footer : HasFooterText (slice_get (sections token) 3) footer
  pub has_text : IsTextLine (pointwise nat_eq purpose (codes "public")) version payload text_line
  pub lines_are : lines ≡ line (codes "version: ") version ++ (line (codes "purpose: ") purpose ++ (footer_line footer ++ text_line))

-- no lines are printed of the token
abbrev pub InspectsNoToken : List ℕ → Type 0
InspectsNoToken token = (lines : List ℕ) → ¬ InspectsToken token lines

-- the lines that are printed of a text: of a key, or else of a token
abbrev pub Inspects : List ℕ → List ℕ → Type 0
Inspects text lines = IsUtf8 text × (InspectsKey text lines ⊎ (BeginsAsNone text × (¬ NamesKind Other text) × InspectsToken text lines))

-- no lines are printed of the text
abbrev pub InspectsNothing : List ℕ → Type 0
InspectsNothing text = (lines : List ℕ) → ¬ Inspects text lines

-- why none are printed of an input: what is behind its comments is no text, or its text has none, with an error that has no text of its own and is
-- not one of a stream
abbrev pub RefusesInspecting : List ℕ → ProgramError → Type 0
RefusesInspecting input error = IsNoText (uncommented false input) error ⊎ (InspectsNothing (inspected_text input) × IsPlain error)
