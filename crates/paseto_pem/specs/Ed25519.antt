-- Keys of Ed25519 (RFC 8410).
use Rattle.std.specs.Prelude.{◌≡◌, ◌≢◌, ◌⊎◌, ℕ, List, ◌++◌, length, Option, Some}
use Rattle.paseto_der.specs.Element.{element}
use Rattle.paseto_ed25519.specs.Ed25519.{ed25519_public}
use Rattle.paseto_pem.specs.declared.label.Label.{Label}
use Rattle.paseto_pem.specs.declared.label.Label.TheVariants.{PrivateKey, PublicKey}
use Rattle.paseto_pem.specs.declared.found.Algorithm.TheVariants.{Ed25519}
use Rattle.paseto_pem.specs.declared.error.PemError.{PemError}
use Rattle.paseto_pem.specs.declared.error.PemError.TheVariants.{InvalidDer, OtherAlgorithm, OtherHalf, InvalidKey}
use Rattle.paseto_pem.specs.Algorithm.{IsAlgorithm, ed25519}
use Rattle.paseto_pem.specs.Info.{IsHalf, IsNoPrivateInfo, IsNoPublicInfo, IsPrivateInfo, private_key_info, public_key_info}
use Rattle.paseto_pem.specs.Key.{Faults, IsOtherLabel}

-- contents are that of a seed, which has 32 octets: a CurvePrivateKey (section 7), and a public key, if there is one
pub record IsSeed (seed : List ℕ) (public : Option (List ℕ)) (contents : List ℕ) : Type 0 where
  pub size : length seed ≡ 32
  pub info : IsPrivateInfo ed25519 (element 0x04 seed) public contents

-- contents are a private key of 64 octets: the seed and its public key
pub record IsPrivateOf (label : Label) (contents key : List ℕ) : Type 0 where
  pub is_private : label ≡ PrivateKey
  pub seed : List ℕ
  pub public : Option (List ℕ)
  pub written : IsSeed seed public contents
  pub half : IsHalf public (ed25519_public seed)
  pub halves : key ≡ seed ++ ed25519_public seed
  pub whole : length key ≡ 64

-- contents are a public key: its 32 octets (section 4)
pub record IsPublicOf (label : Label) (contents key : List ℕ) : Type 0 where
  pub is_public : label ≡ PublicKey
  pub size : length key ≡ 32
  pub written : contents ≡ public_key_info ed25519 key

-- contents are those that are written of a private key: a PrivateKeyInfo
pub record IsPrivateForm (label : Label) (contents key : List ℕ) : Type 0 where
  pub is_private : label ≡ PrivateKey
  pub seed : List ℕ
  pub size : length seed ≡ 32
  pub written : contents ≡ private_key_info ed25519 (element 0x04 seed)
  pub halves : key ≡ seed ++ ed25519_public seed
  pub whole : length key ≡ 64

abbrev pub IsPrivateWritten : Label → List ℕ → List ℕ → Type 0
IsPrivateWritten label contents key = IsPrivateForm label contents key × IsPrivateOf label contents key

-- why contents are not read as a private key, where the label is that of one: each presupposes that none before it holds
abbrev pub IsPrivateRefusal : List ℕ → PemError → Type 0
IsPrivateRefusal contents InvalidDer = IsNoPrivateInfo contents
IsPrivateRefusal contents (OtherAlgorithm other) =
    (algorithm key : List ℕ) × (public : Option (List ℕ)) × IsPrivateInfo algorithm key public contents
    × IsAlgorithm other algorithm × (other ≢ Ed25519)
IsPrivateRefusal contents OtherHalf =
    (seed : List ℕ) × (public : List ℕ) × IsSeed seed (Some public) contents × (public ≢ ed25519_public seed)
IsPrivateRefusal contents InvalidKey =
    (key : List ℕ) × (public : Option (List ℕ)) × IsPrivateInfo ed25519 key public contents
    × ((seed : List ℕ) → length seed ≡ 32 → key ≢ element 0x04 seed)
IsPrivateRefusal contents _ = ⊥

-- the same of a public key
abbrev pub IsPublicRefusal : List ℕ → PemError → Type 0
IsPublicRefusal contents InvalidDer = IsNoPublicInfo contents
IsPublicRefusal contents (OtherAlgorithm other) =
    (algorithm key : List ℕ) × (contents ≡ public_key_info algorithm key) × IsAlgorithm other algorithm × (other ≢ Ed25519)
IsPublicRefusal contents InvalidKey = (key : List ℕ) × (contents ≡ public_key_info ed25519 key) × (length key ≢ 32)
IsPublicRefusal contents _ = ⊥

-- the label is another one, or the contents are refused
abbrev pub IsPrivateFault : Faults
IsPrivateFault label contents error =
    ((label ≢ PrivateKey) × IsOtherLabel label error) ⊎ ((label ≡ PrivateKey) × IsPrivateRefusal contents error)

abbrev pub IsPublicFault : Faults
IsPublicFault label contents error =
    ((label ≢ PublicKey) × IsOtherLabel label error) ⊎ ((label ≡ PublicKey) × IsPublicRefusal contents error)
