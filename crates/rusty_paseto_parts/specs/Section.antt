-- The sections of a token's text, and their base64url (PASETO specification, "PASETO Message Format").
use Rattle.std.specs.Prelude.{◌≡◌, ◌≢◌, ℕ, ◌<◌, ◌≤◌, ◌==◌, List, length, ⊤, All, Err}
use Rattle.std.specs.List.{slice_split, join_with_byte}
use Rattle.base64.specs.Engines.{url_safe_no_pad}
use Rattle.base64.specs.GeneralPurpose.{IsBytes, decode_of, encode_of}
use Rattle.base64.specs.declared.decode.DecodeError.{DecodeError}
use Rattle.rusty_paseto_parts.specs.declared.error.PasetoError.{PasetoError}
use Rattle.rusty_paseto_parts.specs.declared.error.PasetoError.TheVariants.{Memory, PayloadBase64Decode}

-- the parts between the dots
unfoldable pub sections : List ℕ → List (List ℕ)
sections text = slice_split (λ c. c == 46) text

-- no byte of the part is a dot
abbrev pub HasNoDot : List ℕ → Type 0
HasNoDot part = All (λ c. c ≢ 46) part

-- the parts of the text between its dots: some parts with no dot in them, that dots join to the text
pub record AreSections (text : List ℕ) (parts : List (List ℕ)) : Type 0 where
  pub some : 0 < length parts
  pub dotless : All HasNoDot parts
  pub joined : join_with_byte 46 parts ≡ text

-- there are three sections or four
abbrev pub HasCount : List (List ℕ) → Type 0
HasCount parts = (3 ≤ length parts) × (length parts ≤ 4)

-- base64url without padding (RFC 4648, section 5)
unfoldable pub base64url : List ℕ → List ℕ
base64url bytes = encode_of url_safe_no_pad bytes

-- the text is the base64url of no list of bytes
abbrev pub IsNoBase64url : List ℕ → Type 0
IsNoBase64url text = (bytes : List ℕ) → IsBytes bytes → text ≢ base64url bytes

-- what base64's own reading finds wrong with the text
abbrev pub IsDecodeFault : List ℕ → DecodeError → Type 0
IsDecodeFault text fault = decode_of url_safe_no_pad text ≡ Err fault

-- the errors of reading a section's text, and when they come
abbrev pub IsSectionFault : List ℕ → PasetoError → Type 0
IsSectionFault text (Memory _) = ⊤
IsSectionFault text (PayloadBase64Decode source) = IsNoBase64url text × IsDecodeFault text source
IsSectionFault text _ = ⊥
