-- The lines of a token, from what was appended to them, and why there are none.
use Rattle.std.proofs.Common.{◌≡◌, ◌⊎◌, ℕ, ◌<◌, ◌≤◌, ◌-◌, List, [], ◌++◌, length, take, Option, None, Some, codes, nat_eq, append_assoc, IsUtf8, Result, Ok, Err, IfOk, IfErr, String, Global, string_bytes, inl, inr, sym, ap, ◌∙◌, arith}
use Rattle.std.specs.List.{slice_get}
use Rattle.std.specs.Cmp.Lexicographic.{pointwise}
use Rattle.base64.specs.GeneralPurpose.{IsBytes}
use Rattle.rusty_paseto_parts.specs.declared.error.PasetoError.{PasetoError}
use Rattle.rusty_paseto_parts.specs.declared.error.PasetoError.TheVariants.{Memory as NoMemory}
use Rattle.rusty_paseto_parts.specs.Error.{IsMemory}
use Rattle.rusty_paseto_parts.specs.Section.{HasCount, sections, base64url}
use Rattle.rusty_paseto_parts.specs.UntrustedToken.{AreKept, HasFooterText, footer_section, purpose_section, version_section}
use Rattle.rusty_paseto_parts.specs.declared.untrusted_token.UntrustedToken.{UntrustedToken}
use Rattle.paseto_tasks.specs.declared.error.ProgramError.{ProgramError}
use Rattle.paseto_tasks.specs.Error.{Fails, IsOutside, IsPlain, program_error_of}
use Rattle.paseto_tasks.specs.Input.{OfInput, inspected_text, reading}
use Rattle.paseto_tasks.specs.Output.{Makes}
use Rattle.paseto_tasks.specs.Inspect.Key.{BeginsAsNone}
use Rattle.paseto_tasks.specs.TokenKind.{NamesKind}
use Rattle.paseto_tasks.specs.declared.token_kind.TokenKind.TheVariants.{Other}
use Rattle.paseto_tasks.proofs.Blames.{blames_so, within_all}
use Rattle.paseto_tasks.proofs.Inputs.{of_more}
use Rattle.paseto_tasks.specs.Inspect.{Inspects, InspectsNoToken, InspectsNothing, InspectsToken, IsTextLine, RefusesInspecting, SaysText, footer_line, line, signature_length}

in_order : (none v p f t one two three all : List ℕ) → none ≡ [] → one ≡ none ++ v → two ≡ one ++ p → three ≡ two ++ f → all ≡ three ++ t
    → all ≡ v ++ (p ++ (f ++ t))
in_order none v p f t one two three all a b c d e = e ∙ rw (d, c, b, a) (append_assoc (v ++ p) f t ∙ append_assoc v p (f ++ t))

pub inspects : (token version purpose payload : List ℕ) (footer : Option (List ℕ)) (t : UntrustedToken) (added none one two three all : List ℕ)
    → IsUtf8 token → HasCount (sections token) → AreKept (sections token) t → version ≡ version_section t → purpose ≡ purpose_section t → slice_get (sections token) 2 ≡ Some payload
    → HasFooterText (footer_section t) footer → IsTextLine (pointwise nat_eq purpose (codes "public")) version payload added
    → none ≡ [] → one ≡ none ++ line (codes "version: ") version → two ≡ one ++ line (codes "purpose: ") purpose
    → three ≡ two ++ footer_line footer → all ≡ three ++ added → InspectsToken token all
inspects token version purpose payload footer t added none one two three all utf8 count kept v p third foot text a b c d e = record {
  version = version;
  purpose = purpose;
  payload = payload;
  footer = footer;
  text_line = added;
  utf8 = utf8;
  count = count;
  has_version = rw v kept.version;
  has_purpose = rw p kept.purpose;
  has_payload = third;
  has_footer = rw kept.footer foot;
  has_text = text;
  lines_are = in_order none (line (codes "version: ") version) (line (codes "purpose: ") purpose) (footer_line footer) added one two three all a b c d e;
}

-- ---- refused

-- nothing is said of a token with another number of sections
pub no_count : (token : List ℕ) → ¬ HasCount (sections token) → InspectsNoToken token
no_count token none lines is = none is.count

-- nothing is said of a token whose footer is read as no text
pub no_footer : (token : List ℕ) (t : UntrustedToken) (error : PasetoError) → AreKept (sections token) t
    → ((text : Option (List ℕ)) → HasFooterText (footer_section t) text → IsMemory error)
    → IsOutside (program_error_of error) ⊎ InspectsNoToken token
no_footer token t (NoMemory source) kept h = inl tt
no_footer token t error kept h = inr (λ lines is. h is.footer (rw kept.footer at is.has_footer))

-- a section is one text
text_of : Option (List ℕ) → List ℕ
text_of (Some text) = text
text_of None = []

one_text : (section : Option (List ℕ)) (one two : List ℕ) → section ≡ Some one → section ≡ Some two → one ≡ two
unfolding text_of
one_text section one two a b = ap text_of (sym a ∙ b)

-- nothing is said of a token whose payload says no text
pub no_text_line : (token version purpose payload : List ℕ) (t : UntrustedToken) (error : ProgramError) → AreKept (sections token) t
    → version ≡ version_section t → purpose ≡ purpose_section t → slice_get (sections token) 2 ≡ Some payload
    → IsOutside error ⊎ ((added : List ℕ) → ¬ IsTextLine (pointwise nat_eq purpose (codes "public")) version payload added)
    → IsOutside error ⊎ InspectsNoToken token
no_text_line token version purpose payload t error kept v p third (inl outside) = inl outside
no_text_line token version purpose payload t error kept v p third (inr none) = inr (λ lines is.
    let same_version : is.version ≡ version = one_text _ is.version (version_section t) is.has_version kept.version ∙ sym v in
    let same_purpose : is.purpose ≡ purpose = one_text _ is.purpose (purpose_section t) is.has_purpose kept.purpose ∙ sym p in
    let same_payload : is.payload ≡ payload = one_text _ is.payload payload is.has_payload third in
    none is.text_line (rw (same_version, same_purpose, same_payload) at is.has_text))

-- no text is said by a section that is read as no bytes
pub no_bytes : (version section : List ℕ) (error : PasetoError) → ((bytes : List ℕ) → IsBytes bytes → section ≡ base64url bytes → IsMemory error)
    → IsOutside (program_error_of error) ⊎ ((added : List ℕ) → ¬ SaysText version section added)
no_bytes version section (NoMemory source) h = inl tt
no_bytes version section error h = inr (λ added is. h is.payload is.bytes is.spelled)

-- nor by bytes that are too few for a signature
pub no_room : (version section payload : List ℕ) → ((bytes : List ℕ) → IsBytes bytes → section ≡ base64url bytes → payload ≡ bytes)
    → length payload < signature_length version → (added : List ℕ) → ¬ SaysText version section added
no_room version section payload read short added is =
    let same = read is.payload is.bytes is.spelled in
    let room : signature_length version ≤ length payload = rw same is.room in
    absurd (omega arith)

-- nor by bytes that are no text in front of a signature
pub no_utf8 : (version section payload : List ℕ) → ((bytes : List ℕ) → IsBytes bytes → section ≡ base64url bytes → payload ≡ bytes)
    → ¬ IsUtf8 (take (length payload - signature_length version) payload) → (added : List ℕ) → ¬ SaysText version section added
no_utf8 version section payload read none added is =
    let same = read is.payload is.bytes is.spelled in
    none (rw same (rw is.text_is at is.utf8))

-- what is said of a text that begins as no key
pub no_lines : (text : List ℕ) → BeginsAsNone text → (NamesKind Other text) ⊎ InspectsNoToken text → InspectsNothing text
no_lines text none known lines (utf8, inl (inl key)) = none.0 key.0 key.1 key.2
no_lines text none known lines (utf8, inl (inr (inl key))) = none.1 key.0 key.1 key.2
no_lines text none known lines (utf8, inl (inr (inr pem))) = none.2 pem.0
no_lines text none (inl other) lines (utf8, inr token) = token.1 other
no_lines text none (inr nothing) lines (utf8, inr token) = nothing lines token.2

pub or_no_lines : (text : List ℕ) (made : Result (String Global) ProgramError) → BeginsAsNone text → IfErr made (λ error. IsOutside error ⊎ InspectsNoToken text)
    → IfErr made (λ error. IsOutside error ⊎ InspectsNothing text)
or_no_lines text (Ok lines) none refused = tt
or_no_lines text (Err error) none (inl outside) = inl outside
or_no_lines text (Err error) none (inr nothing) = inr (no_lines text none (inr nothing))

-- what is said of a token
pub inspect_makes : (known : Option (List ℕ)) (token : List ℕ) (made : Result (String Global) ProgramError) → OfInput known (λ bytes. inspected_text bytes ≡ token)
    → IfOk made (λ lines. Inspects token (string_bytes lines)) → IfErr made (λ error. IsOutside error ⊎ InspectsNothing token) → IfErr made IsPlain
    → Makes (λ lines. OfInput known (λ bytes. Inspects (inspected_text bytes) lines)) (λ error. OfInput known (λ bytes. RefusesInspecting bytes error))
    (Fails reading) made
inspect_makes known token (Ok lines) is printed refused plain = record {
  printed = of_more known (λ bytes. inspected_text bytes ≡ token) (λ bytes. Inspects (inspected_text bytes) (string_bytes lines)) (λ bytes same. rw same printed) is;
  refused = tt;
}
inspect_makes known token (Err error) is printed (inl outside) plain = record {
  printed = tt;
  refused = inr (outside, blames_so (within_all reading) error plain.1);
}
inspect_makes known token (Err error) is printed (inr none) plain = record {
  printed = tt;
  refused = inl (of_more known (λ bytes. inspected_text bytes ≡ token) (λ bytes. RefusesInspecting bytes error) (λ bytes same. inr (rw same (none, plain))) is);
}
