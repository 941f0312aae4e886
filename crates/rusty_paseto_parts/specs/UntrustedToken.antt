-- What stands in a token before it is opened: nothing of it is to be trusted.
use Rattle.std.specs.Prelude.{◌≡◌, ℕ, List, Option, Some, None, option_map, IfSome, IsUtf8, ⊤}
use Rattle.std.specs.List.{slice_get}
use Rattle.std.specs.declared.str.Utf8Error.{Utf8Error as Utf8Fault}
use Rattle.base64.specs.GeneralPurpose.{IsBytes}
use Rattle.rusty_paseto_parts.specs.Error.{IsUtf8Fault}
use Rattle.rusty_paseto_parts.specs.Section.{HasCount, IsSectionFault, base64url}
use Rattle.rusty_paseto_parts.specs.declared.error.PasetoError.{PasetoError}
use Rattle.rusty_paseto_parts.specs.declared.error.PasetoError.TheVariants.{IncorrectSize, Utf8Error}
use Rattle.rusty_paseto_parts.specs.declared.untrusted_token.UntrustedToken.{UntrustedToken}

-- the sections that were kept
abbrev pub version_section : UntrustedToken → List ℕ
version_section t = t.version.now

abbrev pub purpose_section : UntrustedToken → List ℕ
purpose_section t = t.purpose.now

abbrev pub footer_section : UntrustedToken → Option (List ℕ)
footer_section t = option_map (λ section. section.now) t.footer

-- they are the first, the second and, where there is one, the fourth of the sections
pub record AreKept (parts : List (List ℕ)) (t : UntrustedToken) : Type 0 where
  pub version : slice_get parts 0 ≡ Some (version_section t)
  pub purpose : slice_get parts 1 ≡ Some (purpose_section t)
  pub footer : slice_get parts 3 ≡ footer_section t

-- the section spells the footer's bytes; without a section there is no footer
abbrev pub HasFooterBytes : Option (List ℕ) → Option (List ℕ) → Type 0
HasFooterBytes (Some section) (Some footer) = IsBytes footer × (section ≡ base64url footer)
HasFooterBytes None None = ⊤
HasFooterBytes _ _ = ⊥

-- the section spells the footer's text
abbrev pub HasFooterText : Option (List ℕ) → Option (List ℕ) → Type 0
HasFooterText section text = HasFooterBytes section text × IfSome text IsUtf8

-- the errors of reading a footer's bytes, and when they come: never where there is no section
abbrev pub IsFooterFault : Option (List ℕ) → PasetoError → Type 0
IsFooterFault (Some section) error = IsSectionFault section error
IsFooterFault None error = ⊥

-- the section spells bytes that are no text, in which this is found
pub record IsBase64urlOfNoText (section : List ℕ) (fault : Utf8Fault) : Type 0 where
  pub footer : List ℕ
  pub bytes : IsBytes footer
  pub spelled : section ≡ base64url footer
  pub no_text : ¬ IsUtf8 footer
  pub found : IsUtf8Fault footer fault

-- the errors of reading a footer's text, and when they come
abbrev pub IsFooterTextFault : Option (List ℕ) → PasetoError → Type 0
IsFooterTextFault (Some section) (Utf8Error source) = IsBase64urlOfNoText section source
IsFooterTextFault section error = IsFooterFault section error

-- the errors of reading the footer's text in a token of these sections, and when they come
abbrev pub IsTokenFooterFault : List (List ℕ) → PasetoError → Type 0
IsTokenFooterFault parts IncorrectSize = ¬ HasCount parts
IsTokenFooterFault parts error = HasCount parts × IsFooterTextFault (slice_get parts 3) error
