-- How tokens are written under a key, whatever its type and its version.
use Rattle.std.specs.Prelude.{◌≡◌, ◌⊎◌, ℕ, Bool, List, None, Some, Result, IfOk, IfErr, String, string_bytes}
use Rattle.std.specs.Global.{Global}
use Rattle.rusty_paseto_parts.specs.Error.{IsMemory}
use Rattle.rusty_paseto_parts.specs.declared.error.PasetoError.{PasetoError}
use Rattle.rusty_paseto_parts.specs.declared.error.PasetoError.TheVariants.{ChaChaCipherError, TryFromSlice}
use Rattle.rusty_paseto_core.specs.Context.{Binding}
use Rattle.rusty_paseto_core.specs.Local.{Design}
use Rattle.rusty_paseto_core.specs.Local.Boxed.{boxed_sealing, token_nonce}
use Rattle.rusty_paseto_core.specs.Local.Sealing.{sealing}
use Rattle.rusty_paseto_core.specs.Local.V1.{v1}
use Rattle.rusty_paseto_core.specs.Local.V3.{v3}
use Rattle.rusty_paseto_core.specs.Local.V4.{v4}
use Rattle.rusty_paseto_core.specs.Public.{HasPrivateLength, PublicDesign, message, v1_public, v2_public, v3_public, v4_public}
use Rattle.rusty_paseto_core.specs.Public.Scheme.{Declining, Validity}
use Rattle.rusty_paseto_core.specs.Public.Signing.{IsSigning}
use Rattle.paseto_ed25519.specs.Ed25519.{Ed25519Verifies, IsDeclined, partner}
use Rattle.paseto_p384.specs.P384.{P384Verifies, IsDeclined as IsDeclinedByP384, p384_public}
use Rattle.paseto_rsa.specs.Keys.{rsa_public}
use Rattle.paseto_rsa.specs.RsaPss.{RsaPssVerifies}
use Rattle.paseto_xchacha20poly1305.specs.Sealing.{box_sealing}
use Rattle.rusty_paseto_paserk.specs.declared.header.PaserkType.{PaserkType}
use Rattle.rusty_paseto_paserk.specs.declared.header.PaserkType.TheVariants.{Local, Secret}
use Rattle.rusty_paseto_paserk.specs.declared.header.PaserkVersion.{PaserkVersion}
use Rattle.rusty_paseto_paserk.specs.declared.header.PaserkVersion.TheVariants.{V1, V2, V3, V4}
use Rattle.paseto_keys.specs.AnyKey.{KeyParts, binding}
use Rattle.paseto_keys.specs.Salted.{IsUnsigned}

-- with the footer's section or without: which tokens are those of a text, and for which errors there is none
pub record Writing : Type 1 where
  pub Writes : Bool → List ℕ → List ℕ → Type 0
  pub Declines : Bool → List ℕ → PasetoError → Type 0

-- a text is sealed with what is drawn for its nonce
abbrev pub sealing_by : Design → List ℕ → Binding → Writing
sealing_by design drawn binding = record {
  Writes = λ written text token. token ≡ sealing design binding (design.token_nonce drawn text) written text;
  Declines = λ written text error. ⊥;
}

-- it is boxed, where the box has a sealing of it
abbrev pub boxing_by : List ℕ → Binding → Writing
boxing_by drawn binding = record {
  Writes = λ written text token. boxed_sealing box_sealing binding (token_nonce drawn text) written text ≡ Some token;
  Declines = λ written text error. (error ≡ ChaChaCipherError)
      × (boxed_sealing box_sealing binding (token_nonce drawn text) written text ≡ None);
}

-- it is signed, where the private key has the version's length and the scheme does not decline it
abbrev pub signing_by : Validity → Declining → (List ℕ → List ℕ) → PublicDesign → List ℕ → List ℕ → List ℕ → Writing
signing_by valid declined partner design private footer assertion = record {
  Writes = IsSigning valid design (binding (partner private) footer assertion);
  Declines = λ written text error. ((¬ HasPrivateLength design private) × (error ≡ TryFromSlice))
      ⊎ (HasPrivateLength design private × declined private (message design (binding (partner private) footer assertion) text) error);
}

-- how a version's tokens are written. The last line is that of local keys of version 1; public keys, which write nothing,
-- fall to it too
abbrev pub writing_of : PaserkType → PaserkVersion → List ℕ → List ℕ → List ℕ → List ℕ → Writing
writing_of Local V2 drawn key footer assertion = boxing_by drawn (binding key footer assertion)
writing_of Local V3 drawn key footer assertion = sealing_by v3 drawn (binding key footer assertion)
writing_of Local V4 drawn key footer assertion = sealing_by v4 drawn (binding key footer assertion)
writing_of Secret V1 drawn key footer assertion = signing_by RsaPssVerifies IsUnsigned rsa_public v1_public key footer assertion
writing_of Secret V2 drawn key footer assertion = signing_by Ed25519Verifies IsDeclined partner v2_public key footer assertion
writing_of Secret V3 drawn key footer assertion = signing_by P384Verifies IsDeclinedByP384 p384_public v3_public key footer assertion
writing_of Secret V4 drawn key footer assertion = signing_by Ed25519Verifies IsDeclined partner v4_public key footer assertion
writing_of _ _ drawn key footer assertion = sealing_by v1 drawn (binding key footer assertion)

-- the same under a key, with what is drawn, a footer and an implicit assertion
abbrev pub writing_by : KeyParts → List ℕ → List ℕ → List ℕ → Writing
writing_by key drawn footer assertion = writing_of key.kind key.version drawn key.bytes footer assertion

-- how many bytes are drawn for a token: a nonce, or the salt of version 1
abbrev pub drawn_length : PaserkType → PaserkVersion → ℕ
drawn_length Local V2 = 24
drawn_length Local _ = 32
drawn_length Secret V1 = 48
drawn_length _ _ = 0

-- the answer for a text: a token of it, or else why there is none, or that memory was refused
pub record IsWriteAnswer (writing : Writing) (written : Bool) (text : List ℕ) (result : Result (String Global) PasetoError) : Type 0 where
  pub made : IfOk result (λ token. writing.Writes written text (string_bytes token))
  pub declined : IfErr result (λ error. IsMemory error ⊎ writing.Declines written text error)
