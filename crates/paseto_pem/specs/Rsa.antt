-- Keys of RSA of 2048 bits (RFC 8017, appendix A.1).
use Rattle.std.specs.Prelude.{◌≡◌, ◌≢◌, ◌⊎◌, ℕ, ◌*◌, ◌-◌, ◌<◌, List, ◌++◌, length, nat_eq, slice_index, if◌then◌else◌, Option, None}
use Rattle.paseto_der.specs.Element.{element}
use Rattle.paseto_rsa.specs.Forms.{IsPublic}
use Rattle.paseto_rsa.specs.Keys.{IsPrivate, rsa_public}
use Rattle.paseto_pem.specs.declared.label.Label.{Label}
use Rattle.paseto_pem.specs.declared.label.Label.TheVariants.{PrivateKey, PublicKey, RsaPrivateKey, RsaPublicKey}
use Rattle.paseto_pem.specs.declared.found.Algorithm.TheVariants.{Rsa}
use Rattle.paseto_pem.specs.declared.error.PemError.{PemError}
use Rattle.paseto_pem.specs.declared.error.PemError.TheVariants.{InvalidDer, OtherAlgorithm, OtherSize, OtherHalf, InvalidKey}
use Rattle.paseto_pem.specs.Algorithm.{IsAlgorithm, rsa}
use Rattle.paseto_pem.specs.Info.{IsHalf, IsNoPrivateInfo, IsNoPublicInfo, IsPrivateInfo, private_key_info, public_key_info}
use Rattle.paseto_pem.specs.Key.{Faults, IsOtherLabel}

-- an RSAPrivateKey of this label: in a OneAsymmetricKey, which may have the public key, too; or alone (A.1.2)
abbrev pub IsForm : Label → List ℕ → List ℕ → Option (List ℕ) → Type 0
IsForm PrivateKey contents inner public = IsPrivateInfo rsa inner public contents
IsForm RsaPrivateKey contents inner public = (contents ≡ inner) × (public ≡ None)
IsForm _ contents inner public = ⊥

-- contents are a private key: the PrivateKeyInfo of their RSAPrivateKey. A public key beside it is its own RSAPublicKey
pub record IsPrivateOf (label : Label) (contents key : List ℕ) : Type 0 where
  pub inner : List ℕ
  pub public : Option (List ℕ)
  pub form : IsForm label contents inner public
  pub written : key ≡ private_key_info rsa inner
  pub is_key : IsPrivate key
  pub half : IsHalf public (rsa_public key)

-- contents are those that are written of a private key: a PrivateKeyInfo, which is the key itself
pub record IsPrivateForm (label : Label) (contents key : List ℕ) : Type 0 where
  pub is_private : label ≡ PrivateKey
  pub is_key : IsPrivate key
  pub written : contents ≡ key

abbrev pub IsPrivateWritten : Label → List ℕ → List ℕ → Type 0
IsPrivateWritten label contents key = IsPrivateForm label contents key × IsPrivateOf label contents key

-- what stands in contents for an RSAPublicKey
abbrev pub IsHeld : Label → List ℕ → List ℕ → Type 0
IsHeld PublicKey contents key = contents ≡ public_key_info rsa key
IsHeld RsaPublicKey contents key = contents ≡ key
IsHeld _ contents key = ⊥

-- contents are a public key
pub record IsPublicOf (label : Label) (contents key : List ℕ) : Type 0 where
  pub held : IsHeld label contents key
  pub is_key : IsPublic key

-- contents are those that are written of a public key: a SubjectPublicKeyInfo
pub record IsPublicForm (label : Label) (contents key : List ℕ) : Type 0 where
  pub is_public : label ≡ PublicKey
  pub is_key : IsPublic key
  pub written : contents ≡ public_key_info rsa key

abbrev pub IsPublicWritten : Label → List ℕ → List ℕ → Type 0
IsPublicWritten label contents key = IsPublicForm label contents key × IsPublicOf label contents key

-- how many bits a modulus has, rounded up to whole octets: one of them may be the 0 that keeps the INTEGER from being negative
abbrev pub modulus_size : List ℕ → ℕ
modulus_size modulus = 8 * (if nat_eq (slice_index modulus 0) 0 then length modulus - 1 else length modulus)

-- the first INTEGER is a modulus of so many bits, and not of 2048
abbrev pub HasOtherModulus : ℕ → List ℕ → Type 0
HasOtherModulus size integers =
    (modulus behind : List ℕ) × (integers ≡ element 0x02 modulus ++ behind) × (length modulus < 65536)
    × (size ≡ modulus_size modulus) × (size ≢ 2048)

-- an RSAPrivateKey has a modulus of so many bits, and not of 2048
abbrev pub HasOtherSize : ℕ → List ℕ → Type 0
HasOtherSize size inner =
    (version integers : List ℕ) × (inner ≡ element 0x30 (element 0x02 version ++ integers)) × HasOtherModulus size integers

-- why no RSAPrivateKey is found
abbrev pub IsFormFault : Faults
IsFormFault PrivateKey contents InvalidDer = IsNoPrivateInfo contents
IsFormFault PrivateKey contents (OtherAlgorithm other) =
    (algorithm key : List ℕ) × (public : Option (List ℕ)) × IsPrivateInfo algorithm key public contents
    × IsAlgorithm other algorithm × (other ≢ Rsa)
IsFormFault PrivateKey contents _ = ⊥
IsFormFault RsaPrivateKey contents error = ⊥
IsFormFault label contents error = IsOtherLabel label error

-- why an RSAPrivateKey is refused: each presupposes that none before it holds
abbrev pub IsInnerFault : List ℕ → PemError → Type 0
IsInnerFault inner (OtherSize size) = (¬ IsPrivate (private_key_info rsa inner)) × HasOtherSize size inner
IsInnerFault inner InvalidKey = (¬ IsPrivate (private_key_info rsa inner)) × ((size : ℕ) → ¬ HasOtherSize size inner)
IsInnerFault inner _ = ⊥

-- why an RSAPrivateKey and a public key beside it are refused
abbrev pub IsPairFault : List ℕ → Option (List ℕ) → PemError → Type 0
IsPairFault inner public OtherHalf =
    IsPrivate (private_key_info rsa inner) × (¬ IsHalf public (rsa_public (private_key_info rsa inner)))
IsPairFault inner public error = IsInnerFault inner error

-- why contents are not read as a private key
abbrev pub IsPrivateFault : Faults
IsPrivateFault label contents error =
    IsFormFault label contents error
    ⊎ ((inner : List ℕ) × (public : Option (List ℕ)) × IsForm label contents inner public × IsPairFault inner public error)

-- why no RSAPublicKey is found
abbrev pub IsHeldFault : Faults
IsHeldFault PublicKey contents InvalidDer = IsNoPublicInfo contents
IsHeldFault PublicKey contents (OtherAlgorithm other) =
    (algorithm key : List ℕ) × (contents ≡ public_key_info algorithm key) × IsAlgorithm other algorithm × (other ≢ Rsa)
IsHeldFault PublicKey contents _ = ⊥
IsHeldFault RsaPublicKey contents error = ⊥
IsHeldFault label contents error = IsOtherLabel label error

-- an RSAPublicKey has a modulus of so many bits, and not of 2048
abbrev pub HasOtherPublicSize : ℕ → List ℕ → Type 0
HasOtherPublicSize size key = (integers : List ℕ) × (key ≡ element 0x30 integers) × HasOtherModulus size integers

-- why an RSAPublicKey is refused
abbrev pub IsSizeFault : List ℕ → PemError → Type 0
IsSizeFault key (OtherSize size) = HasOtherPublicSize size key
IsSizeFault key InvalidKey = (size : ℕ) → ¬ HasOtherPublicSize size key
IsSizeFault key _ = ⊥

-- why contents are not read as a public key
abbrev pub IsPublicFault : Faults
IsPublicFault label contents error =
    IsHeldFault label contents error
    ⊎ ((key : List ℕ) × IsHeld label contents key × (¬ IsPublic key) × IsSizeFault key error)
