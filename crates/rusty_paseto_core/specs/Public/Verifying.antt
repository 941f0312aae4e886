-- When a payload is the validly signed one of a text, and which fault is answered where it is of none.
use Rattle.std.specs.Prelude.{◌≡◌, ◌⊎◌, ℕ, ◌-◌, ◌≤◌, List, take, drop, length, IsUtf8}
use Rattle.rusty_paseto_parts.specs.declared.error.PasetoError.{PasetoError}
use Rattle.rusty_paseto_parts.specs.declared.error.PasetoError.TheVariants.{IncorrectSize, FromUtf8Error}
use Rattle.rusty_paseto_core.specs.Context.{Binding}
use Rattle.rusty_paseto_core.specs.Public.{PublicDesign, message, public}
use Rattle.rusty_paseto_core.specs.Public.Scheme.{Refusal, Validity}
use Rattle.rusty_paseto_core.specs.Public.Signing.{IsSignedPayload}
use Rattle.rusty_paseto_core.specs.Reading.{Reading}

-- the parts of a payload: the text and the signature
abbrev pub text_in : PublicDesign → List ℕ → List ℕ
text_in design payload = take (length payload - design.signature_length) payload

abbrev pub signature_in : PublicDesign → List ℕ → List ℕ
signature_in design payload = drop (length payload - design.signature_length) payload

-- the payload has room for a signature
abbrev pub HasRoom : PublicDesign → List ℕ → Type 0
HasRoom design payload = design.signature_length ≤ length payload

-- the payload ends in a valid signature of what stands before it
abbrev pub HasSignature : Validity → PublicDesign → Binding → List ℕ → Type 0
HasSignature valid design binding payload =
    valid binding.key (message design binding (text_in design payload)) (signature_in design payload)

-- the payload ends in a valid signature of this text
pub record HoldsSigned (valid : Validity) (design : PublicDesign) (binding : Binding) (payload text : List ℕ) : Type 0 where
  pub room : HasRoom design payload
  pub is_valid : HasSignature valid design binding payload
  pub text_is : text_in design payload ≡ text
  pub utf8 : IsUtf8 text

-- the error is the first fault of a signed payload, in this order: its length, its signature, for which
-- the scheme's own error is answered, and its text
abbrev pub IsSignedFault : Validity → Refusal → PublicDesign → Binding → List ℕ → PasetoError → Type 0
IsSignedFault valid refused design binding payload error =
    ((¬ HasRoom design payload) × (error ≡ IncorrectSize))
    ⊎ ((HasRoom design payload × (¬ HasSignature valid design binding payload)
    × refused binding.key (message design binding (text_in design payload)) (signature_in design payload) error)
    ⊎ (HasRoom design payload × HasSignature valid design binding payload
    × (¬ IsUtf8 (text_in design payload)) × (error ≡ FromUtf8Error)))

-- how a version's public tokens are read: verified for a public key, a footer and an implicit assertion
abbrev pub verification : Validity → Refusal → PublicDesign → Binding → Reading
verification valid refused design binding = record {
  version = design.version;
  purpose = public;
  footer = binding.footer;
  Carries = IsSignedPayload valid design binding;
  IsPayloadFault = IsSignedFault valid refused design binding;
}
