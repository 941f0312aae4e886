-- How a token is read, whatever its kind: the sections of its framing, and what its payload may be.
use Rattle.std.specs.Prelude.{◌≡◌, ◌⊎◌, ℕ, Bool, true, false, List, [], ◌∷◌, IsUtf8, Option, Some, None, Result, Err, IfOk, IfErr, MatchResult, String}
use Rattle.std.specs.Global.{Global}
use Rattle.std.specs.String.{string_bytes}
use Rattle.rusty_paseto_primitives.specs.Bytes.{IsBytes}
use Rattle.rusty_paseto_parts.specs.Error.{IsMemory}
use Rattle.rusty_paseto_parts.specs.Header.{header_text}
use Rattle.rusty_paseto_parts.specs.Section.{HasCount, IsSectionFault, sections, base64url}
use Rattle.rusty_paseto_parts.specs.declared.error.PasetoError.{PasetoError}
use Rattle.rusty_paseto_parts.specs.declared.error.PasetoError.TheVariants.{IncorrectSize, WrongHeader, FooterInvalid, PayloadBase64Decode}
use Rattle.rusty_paseto_core.specs.Framing.{framing}

-- ---- the framing

-- the footers whose section a token that is read may lack: the empty one alone
abbrev pub MayLackSection : List ℕ → Type 0
MayLackSection footer = footer ≡ []

-- the forms in which a footer is read: with its section, or without where it may be lacking
abbrev pub IsForm : Bool → List ℕ → Type 0
IsForm true footer = Unit {0}
IsForm false footer = MayLackSection footer

-- the section that was found for the footer is the footer's, and one was found unless it may be lacking
abbrev pub IsExpected : List ℕ → Option (List ℕ) → Type 0
IsExpected footer (Some section) = section ≡ base64url footer
IsExpected footer None = MayLackSection footer

-- the fourth section is the one that is found for the footer
abbrev pub HasFooter : List ℕ → List (List ℕ) → Type 0
HasFooter footer (_ ∷ _ ∷ _ ∷ section ∷ _) = IsExpected footer (Some section)
HasFooter footer _ = IsExpected footer None

-- the first two sections are the version's and the purpose's texts
abbrev pub HasHeader : List ℕ → List ℕ → List (List ℕ) → Type 0
HasHeader version purpose (first ∷ second ∷ _) = (first ≡ version) × (second ≡ purpose)
HasHeader version purpose _ = ⊥

-- the third section spells this payload
abbrev pub IsThirdBase64url : List ℕ → List (List ℕ) → Type 0
IsThirdBase64url payload (_ ∷ _ ∷ section ∷ _) = section ≡ base64url payload
IsThirdBase64url payload _ = ⊥

-- the framing has no fault, and its payload is this one
pub record IsFramed (version purpose expected token payload : List ℕ) : Type 0 where
  pub count : HasCount (sections token)
  pub footer : HasFooter expected (sections token)
  pub header : HasHeader version purpose (sections token)
  pub bytes : IsBytes payload
  pub spells : IsThirdBase64url payload (sections token)

-- the error is the fault of the third section, which spells no bytes
abbrev pub IsThirdFault : List (List ℕ) → PasetoError → Type 0
IsThirdFault (_ ∷ _ ∷ section ∷ _) error = IsSectionFault section error
IsThirdFault _ error = ⊥

-- the error is the first fault of the framing, in this order: the number of sections, the footer,
-- the header, a third section that spells no bytes at all
abbrev pub IsFramingFault : List ℕ → List ℕ → List ℕ → List ℕ → PasetoError → Type 0
IsFramingFault version purpose footer token IncorrectSize = ¬ HasCount (sections token)
IsFramingFault version purpose footer token FooterInvalid =
    HasCount (sections token) × (¬ HasFooter footer (sections token))
IsFramingFault version purpose footer token WrongHeader =
    HasCount (sections token) × HasFooter footer (sections token)
    × (¬ HasHeader version purpose (sections token))
IsFramingFault version purpose footer token (PayloadBase64Decode source) =
    HasCount (sections token) × HasFooter footer (sections token)
    × HasHeader version purpose (sections token)
    × IsThirdFault (sections token) (PayloadBase64Decode source)
IsFramingFault version purpose footer token _ = ⊥

-- ---- the payload

-- the version's and the purpose's texts, the expected footer, which payloads carry a text, and which
-- error is the first fault of a payload
pub record Reading : Type 1 where
  pub version : List ℕ
  pub purpose : List ℕ
  pub footer : List ℕ
  pub Carries : List ℕ → List ℕ → Type 0
  pub IsPayloadFault : List ℕ → PasetoError → Type 0

-- the header of the tokens that are read
abbrev pub header_of : Reading → List ℕ
header_of reading = header_text reading.version reading.purpose

-- the payload carries these bytes, and they are a text
pub record CarriesText (reading : Reading) (payload text : List ℕ) : Type 0 where
  pub utf8 : IsUtf8 text
  pub bytes : IsBytes text
  pub carries : reading.Carries payload text

-- a token is read as a text where it is the framing of a payload that carries the text, in a form that
-- the footer allows
pub record IsRead (reading : Reading) (token text : List ℕ) : Type 0 where
  pub payload : List ℕ
  pub carried : CarriesText reading payload text
  pub written : Bool
  pub form : IsForm written reading.footer
  pub is_framing : token ≡ framing (header_of reading) payload written reading.footer

-- the error is the first fault of reading the token: one of its framing, or else of its payload
abbrev pub IsFault : Reading → List ℕ → PasetoError → Type 0
IsFault reading token error =
    IsFramingFault reading.version reading.purpose reading.footer token error
    ⊎ ((payload : List ℕ) × IsFramed reading.version reading.purpose reading.footer token payload
    × reading.IsPayloadFault payload error)

-- the answer of reading a token: a text as which it is read, that text wherever there is one unless
-- memory is refused, and else the first fault; a wrong number of sections whatever memory there is
pub record IsAnswer (reading : Reading) (token : List ℕ) (result : Result (String Global) PasetoError) : Type 0 where
  pub read : IfOk result (λ text. IsRead reading token (string_bytes text))
  pub complete : (text : List ℕ) → IsRead reading token text
      → MatchResult result (λ found. string_bytes found ≡ text) IsMemory
  pub count : ¬ HasCount (sections token) → result ≡ Err IncorrectSize
  pub fault : IfErr result (λ error. IsMemory error ⊎ IsFault reading token error)
