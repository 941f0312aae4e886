-- Public tokens, whose payload is a text and its signature (PASETO specification, "Version 1" to
-- "Version 4").
pub mod Scheme
pub mod Signing
pub mod Verifying
pub mod SignatureForgery
use Rattle.std.specs.Prelude.{◌≡◌, ◌≤◌, ℕ, Option, Some, None, IfSome, length, Bool, true, false, List, [], ◌∷◌, ◌++◌, if◌then◌else◌, codes}
use Rattle.std.proofs.Common.{refl}
use Rattle.rusty_paseto_parts.specs.Header.{header_text}
use Rattle.rusty_paseto_parts.specs.PreAuthenticationEncoding.{pae}
use Rattle.rusty_paseto_core.specs.Context.{Binding}
use Rattle.rusty_paseto_core.specs.Framing.{IsHeader}

-- the purpose of a signed token
abbrev pub public : List ℕ
public = codes "public"

-- a public version: its text, how many bytes its signatures have, how many its private keys have where
-- the version tells, whether the public key is the first piece that is signed, and whether the implicit
-- assertion is the last
pub record PublicDesign : Type 0 where
  pub version : List ℕ
  pub signature_length : ℕ
  pub private_length : Option ℕ
  pub binds_key : Bool
  pub binds_assertion : Bool

abbrev pub v1_public : PublicDesign
v1_public = record { version = codes "v1"; signature_length = 256; private_length = None; binds_key = false; binds_assertion = false }

abbrev pub v2_public : PublicDesign
v2_public = record { version = codes "v2"; signature_length = 64; private_length = Some 64; binds_key = false; binds_assertion = false }

abbrev pub v3_public : PublicDesign
v3_public = record { version = codes "v3"; signature_length = 96; private_length = None; binds_key = true; binds_assertion = true }

abbrev pub v4_public : PublicDesign
v4_public = record { version = codes "v4"; signature_length = 64; private_length = Some 64; binds_key = false; binds_assertion = true }

-- the private key has the length that the version tells, where it tells one
abbrev pub HasPrivateLength : PublicDesign → List ℕ → Type 0
HasPrivateLength design private = IfSome design.private_length (λ n. length private ≡ n)

-- the header that begins the version's public tokens
abbrev pub header : PublicDesign → List ℕ
header design = header_text design.version public

-- a version that can be signed for: its header is that of its text, and its signatures are short
pub record IsLawful (design : PublicDesign) (text : List ℕ) : Type 0 where
  pub is_header : IsHeader design.version public (header design)
  pub has_version : design.version ≡ text
  pub short_signature : design.signature_length ≤ 256

pub lawful : (design : PublicDesign) → IsHeader design.version public (header design) → design.signature_length ≤ 256
    → IsLawful design design.version
lawful design is_header short = record { is_header = is_header; has_version = refl; short_signature = short }

-- a piece, where the version binds it
abbrev pub where_bound : Bool → List ℕ → List (List ℕ)
where_bound binds piece = if binds then piece ∷ [] else []

-- the pieces that are signed: the public key, the header, the text, the footer and the assertion
abbrev pub pieces : PublicDesign → Binding → List ℕ → List (List ℕ)
pieces design binding text =
    where_bound design.binds_key binding.key
    ++ (header design ∷ text ∷ binding.footer ∷ where_bound design.binds_assertion binding.assertion)

-- the message that is signed
unfoldable pub message : PublicDesign → Binding → List ℕ → List ℕ
message design binding text = pae (pieces design binding text)
