-- The tokens that a builder makes of its claims.
use Rattle.std.specs.Prelude.{◌≡◌, ◌⊎◌, ℕ, Bool, List, Option, is_some, length, Result, IfOk, IfErr, IsErr, String, string_bytes}
use Rattle.std.specs.Global.{Global}
use Rattle.serde_json.specs.Data.{Members}
use Rattle.rusty_paseto_core.specs.declared.Footer.{Footer}
use Rattle.rusty_paseto_core.specs.declared.ImplicitAssertion.{ImplicitAssertion}
use Rattle.rusty_paseto_core.specs.declared.PasetoError.{PasetoError}
use Rattle.rusty_paseto_core.specs.declared.PasetoError.TheVariants.{TryFromSlice}
use Rattle.rusty_paseto_core.specs.Context.{Binding, binding_of}
use Rattle.rusty_paseto_core.specs.Local.{Design}
use Rattle.rusty_paseto_core.specs.Local.Boxed.{boxed_sealing, token_nonce}
use Rattle.rusty_paseto_core.specs.Local.SealedBox.{BoxSealing}
use Rattle.rusty_paseto_core.specs.Local.Sealing.{sealing}
use Rattle.rusty_paseto_core.specs.Public.{HasPrivateLength, PublicDesign, message}
use Rattle.rusty_paseto_core.specs.Public.Scheme.{Validity}
use Rattle.rusty_paseto_core.specs.Public.Signing.{IsSigning}
use Rattle.rusty_paseto_generic.specs.Builders.Claims.{payload}
use Rattle.rusty_paseto_generic.specs.Error.{IsMemory, of_cipher}
use Rattle.rusty_paseto_generic.specs.declared.error.GenericBuilderError.{GenericBuilderError}
use Rattle.rusty_paseto_generic.specs.declared.error.GenericBuilderError.TheVariants.{CipherError}

-- the token is the sealing of the claims' text under a nonce of 32 bytes that the generator gave
pub record IsSealed (design : Design) (binding : Binding) (written : Bool) (claims : Members) (IsGiven : List ℕ → Type 0)
    (token : List ℕ) : Type 0 where
  pub nonce : List ℕ
  pub size : length nonce ≡ 32
  pub is_given : IsGiven nonce
  pub is_sealing : token ≡ sealing design binding (design.token_nonce nonce (payload claims)) written (payload claims)

-- the box answers this, a token or none, for the claims' text under a nonce of 24 bytes that the generator gave
pub record IsBoxAnswer (box : BoxSealing) (binding : Binding) (written : Bool) (claims : Members) (IsGiven : List ℕ → Type 0)
    (answer : Option (List ℕ)) : Type 0 where
  pub nonce : List ℕ
  pub size : length nonce ≡ 24
  pub is_given : IsGiven nonce
  pub is_answer : boxed_sealing box binding (token_nonce nonce (payload claims)) written (payload claims) ≡ answer

-- the answer of signing the claims' text under a private key whose public key is `public`: a signing, with
-- the footer's section exactly where a footer is given; `TryFromSlice` for a private key of another length than
-- the version tells; and else what the scheme declines this message with. A failed allocation may come in place of any
-- answer
pub record IsSignAnswer (valid : Validity) (Declined : List ℕ → PasetoError → Type 0) (design : PublicDesign) (private public : List ℕ)
    (footer : Option Footer) (assertion : Option ImplicitAssertion) (claims : Members)
    (result : Result (String Global) GenericBuilderError) : Type 0 where
  pub ok : IfOk result (λ token. IsSigning valid design (binding_of public footer assertion) (is_some footer) (payload claims) (string_bytes token))
  pub not_signed : ¬ HasPrivateLength design private → IsErr result
  pub private_length : ¬ HasPrivateLength design private → IfErr result (λ error. IsMemory error ⊎ (error ≡ CipherError TryFromSlice))
  pub err : HasPrivateLength design private
      → IfErr result (λ error. IsMemory error ⊎ ((refusal : PasetoError)
      × Declined (message design (binding_of public footer assertion) (payload claims)) refusal × (error ≡ of_cipher refusal)))
