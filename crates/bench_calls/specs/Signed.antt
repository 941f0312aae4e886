-- Public tokens of version 4 under Ed25519 and of version 3 under P-384, with no footer and no implicit assertion.
use Rattle.std.specs.Prelude.{ℕ, List, false, None}
use Rattle.rusty_paseto_core.specs.Context.{binding_of}
use Rattle.rusty_paseto_core.specs.Public.{v3_public, v4_public}
use Rattle.rusty_paseto_core.specs.Public.Signing.{IsSigning}
use Rattle.rusty_paseto_core.specs.Public.Verifying.{verification}
use Rattle.rusty_paseto_core.specs.Reading.{IsRead}
use Rattle.paseto_ed25519.specs.Ed25519.{Ed25519Verifies, IsRefused, partner}
use Rattle.paseto_p384.specs.P384.{P384Verifies, p384_public}
use Rattle.paseto_p384.specs.P384.{IsRefused as IsRefusedByP384}

-- the token is a signed one of the text under the private key
abbrev pub IsSignedToken : List ℕ → List ℕ → List ℕ → Type 0
IsSignedToken private text token =
    IsSigning Ed25519Verifies v4_public (binding_of (partner private) None None) false text token

-- the token verifies as the text under the public key
abbrev pub VerifiesAs : List ℕ → List ℕ → List ℕ → Type 0
VerifiesAs public token text =
    IsRead (verification Ed25519Verifies IsRefused v4_public (binding_of public None None)) token text

-- the token of version 3 is a signed one of the text under the private key
abbrev pub IsSignedV3Token : List ℕ → List ℕ → List ℕ → Type 0
IsSignedV3Token private text token =
    IsSigning P384Verifies v3_public (binding_of (p384_public private) None None) false text token

-- the token of version 3 verifies as the text under the public key
abbrev pub VerifiesInV3As : List ℕ → List ℕ → List ℕ → Type 0
VerifiesInV3As public token text =
    IsRead (verification P384Verifies IsRefusedByP384 v3_public (binding_of public None None)) token text
