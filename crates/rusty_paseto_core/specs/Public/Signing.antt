-- The signing of a text: the token of it and a valid signature.
use Rattle.std.specs.Prelude.{◌≡◌, ◌⊎◌, ℕ, Bool, List, ◌++◌, length, is_some, Option, Result, Err, IfOk, IfErr, String}
use Rattle.std.specs.Global.{Global}
use Rattle.std.specs.String.{string_bytes}
use Rattle.rusty_paseto_primitives.specs.Bytes.{IsBytes}
use Rattle.rusty_paseto_parts.specs.Error.{IsMemory}
use Rattle.rusty_paseto_parts.specs.declared.error.PasetoError.{PasetoError}
use Rattle.rusty_paseto_parts.specs.declared.error.PasetoError.TheVariants.{TryFromSlice}
use Rattle.rusty_paseto_parts.specs.declared.texts.footer.Footer.{Footer}
use Rattle.rusty_paseto_parts.specs.declared.texts.implicit_assertion.ImplicitAssertion.{ImplicitAssertion}
use Rattle.rusty_paseto_core.specs.Context.{Binding, binding_of}
use Rattle.rusty_paseto_core.specs.Framing.{framing}
use Rattle.rusty_paseto_core.specs.Public.{HasPrivateLength, PublicDesign, header, message}
use Rattle.rusty_paseto_core.specs.Public.Scheme.{Validity}

-- the payload is a text and a signature of it that is valid for the public key
pub record IsSignedPayload (valid : Validity) (design : PublicDesign) (binding : Binding) (payload text : List ℕ) : Type 0 where
  pub signature : List ℕ
  pub size : length signature ≡ design.signature_length
  pub bytes : IsBytes signature
  pub is_valid : valid binding.key (message design binding text) signature
  pub is_signed : payload ≡ text ++ signature

-- the token is the framing of a signed payload, with the footer's section or without
pub record IsSigning (valid : Validity) (design : PublicDesign) (binding : Binding) (written : Bool) (text token : List ℕ) : Type 0 where
  pub payload : List ℕ
  pub signed : IsSignedPayload valid design binding payload text
  pub is_framing : token ≡ framing (header design) payload written binding.footer

-- the answer of signing a text under a private key whose public key is `public`: a signing, with the
-- footer's section exactly where a footer is given; `TryFromSlice` exactly for a private key of another
-- length than the version tells; and else what the scheme declines this message with, or a failed allocation
pub record IsSignAnswer (valid : Validity) (Declined : List ℕ → PasetoError → Type 0) (design : PublicDesign) (private public : List ℕ)
    (footer : Option Footer) (assertion : Option ImplicitAssertion) (text : List ℕ)
    (result : Result (String Global) PasetoError) : Type 0 where
  pub ok : IfOk result (λ token. IsSigning valid design (binding_of public footer assertion) (is_some footer) text (string_bytes token))
  pub private_length : ¬ HasPrivateLength design private → result ≡ Err TryFromSlice
  pub err : HasPrivateLength design private
      → IfErr result (λ error. IsMemory error ⊎ Declined (message design (binding_of public footer assertion) text) error)
