-- Keys with their algorithm, in DER.
use Rattle.std.specs.Prelude.{◌≡◌, ◌⊎◌, ⊤, ℕ, List, [], ◌∷◌, ◌++◌, Option, None, Some}
use Rattle.std.specs.Borrow.{Bor}
use Rattle.paseto_der.specs.Element.{element}

-- PrivateKeyInfo (RFC 5208, section 5), which RFC 5958 calls OneAsymmetricKey of version v1: the version 0, the
-- algorithm, and the private key; without attributes. This is what is written
unfoldable pub private_key_info : List ℕ → List ℕ → List ℕ
private_key_info algorithm key =
    element 0x30 (element 0x02 (0 ∷ []) ++ (element 0x30 algorithm ++ element 0x04 key))

-- the version: v1, which is 0, and v2, which is 1, where there is a public key (RFC 5958, section 2)
abbrev pub version_of : Option (List ℕ) → ℕ
version_of None = 0
version_of (Some public) = 1

-- publicKey: a BIT STRING of whole octets, tagged 1
abbrev pub public_of : Option (List ℕ) → List ℕ
public_of None = []
public_of (Some public) = element 0x81 (0 ∷ public)

-- attributes, tagged 0, which are passed over
abbrev pub AreAttributes : List ℕ → Type 0
AreAttributes octets = (octets ≡ []) ⊎ ((attributes : List ℕ) × (octets ≡ element 0xa0 attributes))

-- octets are a OneAsymmetricKey (RFC 5958, section 2): the version, the algorithm, the private key, any attributes, and in
-- version v2 the public key. In version v1 it is a PrivateKeyInfo
pub record IsPrivateInfo (algorithm key : List ℕ) (public : Option (List ℕ)) (octets : List ℕ) : Type 0 where
  pub attributes : List ℕ
  pub passed : AreAttributes attributes
  pub written : octets
      ≡ element 0x30
      (element 0x02 (version_of public ∷ []) ++ (element 0x30 algorithm ++ (element 0x04 key ++ (attributes ++ public_of public))))

-- octets are none
abbrev pub IsNoPrivateInfo : List ℕ → Type 0
IsNoPrivateInfo octets = (algorithm key : List ℕ) (public : Option (List ℕ)) → ¬ IsPrivateInfo algorithm key public octets

-- the public key is this one, if there is one
abbrev pub IsHalf : Option (List ℕ) → List ℕ → Type 0
IsHalf None own = ⊤
IsHalf (Some public) own = public ≡ own

-- what is borrowed
abbrev pub lent : Option (Bor (List ℕ)) → Option (List ℕ)
lent None = None
lent (Some public) = Some public.now

-- SubjectPublicKeyInfo (RFC 5280, section 4.1): the algorithm, and the public key as a BIT STRING of whole octets
unfoldable pub public_key_info : List ℕ → List ℕ → List ℕ
public_key_info algorithm key = element 0x30 (element 0x30 algorithm ++ element 0x03 (0 ∷ key))

-- octets are none
abbrev pub IsNoPublicInfo : List ℕ → Type 0
IsNoPublicInfo octets = (algorithm : List ℕ) (key : List ℕ) → ¬ (octets ≡ public_key_info algorithm key)
