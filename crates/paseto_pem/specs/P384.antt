-- Keys of P-384 (RFC 5480, RFC 5915).
use Rattle.std.specs.Prelude.{◌≡◌, ◌≢◌, ◌⊎◌, ℕ, ◌+◌, ◌%◌, List, [], ◌∷◌, ◌++◌, length, take, slice_index, Option, None, Some}
use Rattle.paseto_der.specs.Element.{element}
use Rattle.paseto_p384.specs.Encoding.{coordinates_of}
use Rattle.paseto_p384.specs.P384.{IsPrivate, p384_public}
use Rattle.paseto_pem.specs.declared.label.Label.{Label}
use Rattle.paseto_pem.specs.declared.label.Label.TheVariants.{PrivateKey, PublicKey, EcPrivateKey}
use Rattle.paseto_pem.specs.declared.found.Algorithm.TheVariants.{EllipticCurve}
use Rattle.paseto_pem.specs.declared.error.PemError.{PemError}
use Rattle.paseto_pem.specs.declared.error.PemError.TheVariants.{InvalidDer, OtherAlgorithm, OtherCurve, OtherHalf, InvalidKey}
use Rattle.paseto_pem.specs.Algorithm.{IsAlgorithm, IsCurve, ec_public_key, secp384r1}
use Rattle.paseto_pem.specs.Info.{IsHalf, IsNoPrivateInfo, IsNoPublicInfo, IsPrivateInfo, private_key_info, public_key_info}
use Rattle.paseto_pem.specs.Key.{Faults, IsOtherLabel}

-- the algorithm, whose parameters are the curve
abbrev pub p384 : List ℕ
p384 = ec_public_key ++ secp384r1

-- ECPrivateKey: the version 1, the number, and what follows (RFC 5915, section 3)
unfoldable pub ec_private_key : List ℕ → List ℕ → List ℕ
ec_private_key number rest = element 0x30 (element 0x02 (1 ∷ []) ++ (element 0x04 number ++ rest))

-- the parameters in an ECPrivateKey, tagged 0
abbrev pub parameters : List ℕ → List ℕ
parameters curve = element 0xa0 curve

-- the public key in an ECPrivateKey, tagged 1, by its coordinates, without compression
unfoldable pub public_part : List ℕ → List ℕ
public_part xy = element 0xa1 (element 0x03 (0 ∷ 4 ∷ xy))

-- what follows the number is the parameters of the curve and the rest, or it has no parameters and is the rest
abbrev pub IsBehindCurve : List ℕ → List ℕ → Type 0
IsBehindCurve behind rest =
    (behind ≡ parameters secp384r1 ++ rest)
    ⊎ ((behind ≡ rest) × ((curve other : List ℕ) → behind ≢ parameters curve ++ other))

-- what follows the number begins with the parameters of another curve
abbrev pub IsCurveFault : List ℕ → PemError → Type 0
IsCurveFault behind (OtherCurve other) =
    (curve rest : List ℕ) × (behind ≡ parameters curve ++ rest) × (curve ≢ secp384r1) × IsCurve other curve
IsCurveFault behind _ = ⊥

-- contents are an ECPrivateKey of the curve: in a OneAsymmetricKey, which tells the curve and may have the public key once
-- more, and where the parameters need not tell it again; or alone, where they tell it (RFC 5915, section 3)
abbrev pub IsForm : Label → List ℕ → List ℕ → List ℕ → Option (List ℕ) → Type 0
IsForm PrivateKey contents number rest public =
    (behind : List ℕ) × IsBehindCurve behind rest × IsPrivateInfo p384 (ec_private_key number behind) public contents
IsForm EcPrivateKey contents number rest public =
    (contents ≡ ec_private_key number (parameters secp384r1 ++ rest)) × (public ≡ None)
IsForm _ contents number rest public = ⊥

-- these are the coordinates of the public key of a private key
abbrev pub IsPointOf : List ℕ → List ℕ → Type 0
IsPointOf private xy = IsPrivate private × (coordinates_of (p384_public private) ≡ Some xy)

-- each public key beside a private one is its own, by its coordinates: that in the ECPrivateKey, and that beside it
abbrev pub AreHalves : List ℕ → Option (List ℕ) → List ℕ → Type 0
AreHalves rest public xy = ((rest ≡ []) ⊎ (rest ≡ public_part xy)) × IsHalf public (4 ∷ xy)

-- octets are the number of a private key of 48 octets: these (RFC 5915, section 3), or these with a 0 before them, as GnuTLS
-- writes some
abbrev pub IsNumber : List ℕ → List ℕ → Type 0
IsNumber octets key = (octets ≡ key) ⊎ (octets ≡ 0 ∷ key)

-- contents are a private key of 48 octets
pub record IsPrivateOf (label : Label) (contents key : List ℕ) : Type 0 where
  pub xy : List ℕ
  pub point : IsPointOf key xy
  pub number : List ℕ
  pub told : IsNumber number key
  pub rest : List ℕ
  pub public : Option (List ℕ)
  pub form : IsForm label contents number rest public
  pub halves : AreHalves rest public xy

-- contents are those that are written of a private key: a PrivateKeyInfo, and in its ECPrivateKey the public key
pub record IsPrivateForm (label : Label) (contents key : List ℕ) : Type 0 where
  pub is_private : label ≡ PrivateKey
  pub xy : List ℕ
  pub point : IsPointOf key xy
  pub written : contents ≡ private_key_info p384 (ec_private_key key (public_part xy))

abbrev pub IsPrivateWritten : Label → List ℕ → List ℕ → Type 0
IsPrivateWritten label contents key = IsPrivateForm label contents key × IsPrivateOf label contents key

-- the compressed form of coordinates: 2 or 3 by the parity of y, and x (SEC 1, section 2.3.3, step 2)
unfoldable pub compressed : List ℕ → List ℕ
compressed xy = (2 + slice_index xy 95 % 2) ∷ take 48 xy

-- a public key is the point of these coordinates
pub record IsPoint (key xy : List ℕ) : Type 0 where
  pub size : length key ≡ 49
  pub width : length xy ≡ 96
  pub decoded : coordinates_of key ≡ Some xy
  pub encoded : key ≡ compressed xy

-- octets are a public key: with compression or without
abbrev pub IsSpelled : List ℕ → List ℕ → List ℕ → Type 0
IsSpelled octets key xy = (octets ≡ key) ⊎ (octets ≡ 4 ∷ xy)

-- contents are a public key of 49 octets
pub record IsPublicOf (label : Label) (contents key : List ℕ) : Type 0 where
  pub is_public : label ≡ PublicKey
  pub xy : List ℕ
  pub point : IsPoint key xy
  pub octets : List ℕ
  pub written : contents ≡ public_key_info p384 octets
  pub spelled : IsSpelled octets key xy

-- contents are those that are written of a public key: its point without compression
pub record IsPublicForm (label : Label) (contents key : List ℕ) : Type 0 where
  pub is_public : label ≡ PublicKey
  pub xy : List ℕ
  pub point : IsPoint key xy
  pub written : contents ≡ public_key_info p384 (4 ∷ xy)

abbrev pub IsPublicWritten : Label → List ℕ → List ℕ → Type 0
IsPublicWritten label contents key = IsPublicForm label contents key × IsPublicOf label contents key

-- why an algorithm is refused
abbrev pub IsAlgorithmFault : List ℕ → PemError → Type 0
IsAlgorithmFault algorithm (OtherAlgorithm other) = IsAlgorithm other algorithm × (other ≢ EllipticCurve)
IsAlgorithmFault algorithm (OtherCurve other) =
    (curve : List ℕ) × (algorithm ≡ ec_public_key ++ curve) × (curve ≢ secp384r1) × IsCurve other curve
IsAlgorithmFault algorithm _ = ⊥

-- why no ECPrivateKey of the curve is found in a OneAsymmetricKey: each presupposes that none before it holds. The curve is
-- another one by the algorithm, or by the parameters in the ECPrivateKey
abbrev pub IsInfoFault : List ℕ → PemError → Type 0
IsInfoFault contents InvalidDer = IsNoPrivateInfo contents
IsInfoFault contents InvalidKey =
    (key : List ℕ) × (public : Option (List ℕ)) × IsPrivateInfo p384 key public contents
    × ((number rest : List ℕ) → key ≢ ec_private_key number rest)
IsInfoFault contents error =
    ((algorithm key : List ℕ) × (public : Option (List ℕ)) × IsPrivateInfo algorithm key public contents × IsAlgorithmFault algorithm error)
    ⊎ ((number behind : List ℕ) × (public : Option (List ℕ)) × IsPrivateInfo p384 (ec_private_key number behind) public contents
    × IsCurveFault behind error)

-- why none is found that stands alone: it is none, or none that tells its curve, or one of another curve
abbrev pub IsAloneFault : List ℕ → PemError → Type 0
IsAloneFault contents InvalidDer = (number curve rest : List ℕ) → contents ≢ ec_private_key number (parameters curve ++ rest)
IsAloneFault contents (OtherCurve other) =
    (number curve rest : List ℕ) × (contents ≡ ec_private_key number (parameters curve ++ rest)) × (curve ≢ secp384r1)
    × IsCurve other curve
IsAloneFault contents _ = ⊥

abbrev pub IsFormFault : Faults
IsFormFault PrivateKey contents error = IsInfoFault contents error
IsFormFault EcPrivateKey contents error = IsAloneFault contents error
IsFormFault label contents error = IsOtherLabel label error

-- why an ECPrivateKey of the curve is refused: a public key beside the private one is not its own, or there is no private key
abbrev pub IsNumberFault : Label → List ℕ → PemError → Type 0
IsNumberFault label contents OtherHalf =
    (number key rest : List ℕ) × (public : Option (List ℕ)) × (xy : List ℕ) × IsForm label contents number rest public
    × IsNumber number key × IsPointOf key xy × (¬ AreHalves rest public xy)
IsNumberFault label contents InvalidKey =
    (number rest : List ℕ) × (public : Option (List ℕ)) × IsForm label contents number rest public
    × ((key xy : List ℕ) → IsNumber number key → ¬ IsPointOf key xy)
IsNumberFault label contents _ = ⊥

-- why contents are not read as a private key
abbrev pub IsPrivateFault : Faults
IsPrivateFault label contents error = IsFormFault label contents error ⊎ IsNumberFault label contents error

-- why contents are not read as a public key, where the label is that of one: each presupposes that none before it holds
abbrev pub IsPublicRefusal : List ℕ → PemError → Type 0
IsPublicRefusal contents InvalidDer = IsNoPublicInfo contents
IsPublicRefusal contents InvalidKey =
    (octets : List ℕ) × (contents ≡ public_key_info p384 octets) × ((key xy : List ℕ) → IsPoint key xy → ¬ IsSpelled octets key xy)
IsPublicRefusal contents error =
    (algorithm key : List ℕ) × (contents ≡ public_key_info algorithm key) × IsAlgorithmFault algorithm error

abbrev pub IsPublicFault : Faults
IsPublicFault label contents error =
    ((label ≢ PublicKey) × IsOtherLabel label error) ⊎ ((label ≡ PublicKey) × IsPublicRefusal contents error)
