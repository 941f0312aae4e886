-- The algorithms of keys, and the curves.
use Rattle.std.specs.Prelude.{◌≡◌, ◌≢◌, ℕ, List, [], ◌∷◌, ◌++◌}
use Rattle.paseto_der.specs.Element.{element}
use Rattle.paseto_pem.specs.declared.found.Algorithm.{Algorithm}
use Rattle.paseto_pem.specs.declared.found.Algorithm.TheVariants.{Ed25519, EllipticCurve, Rsa, Unknown}
use Rattle.paseto_pem.specs.declared.found.Curve.{Curve}
use Rattle.paseto_pem.specs.declared.found.Curve.TheVariants.{P256, P521, Secp256k1, Explicit, Unknown as UnknownCurve}

-- id-Ed25519, 1.3.101.112, with no parameters (RFC 8410, section 3)
unfoldable pub ed25519 : List ℕ
ed25519 = element 0x06 (0x2b ∷ 0x65 ∷ 0x70 ∷ [])

-- id-ecPublicKey, 1.2.840.10045.2.1 (RFC 5480, section 2.1.1)
unfoldable pub ec_public_key : List ℕ
ec_public_key = element 0x06 (0x2a ∷ 0x86 ∷ 0x48 ∷ 0xce ∷ 0x3d ∷ 0x02 ∷ 0x01 ∷ [])

-- rsaEncryption, 1.2.840.113549.1.1.1, with parameters NULL (RFC 8017, appendix A.1)
unfoldable pub rsa : List ℕ
rsa = element 0x06 (0x2a ∷ 0x86 ∷ 0x48 ∷ 0x86 ∷ 0xf7 ∷ 0x0d ∷ 0x01 ∷ 0x01 ∷ 0x01 ∷ []) ++ element 0x05 []

-- secp384r1, 1.3.132.0.34 (RFC 5480, section 2.1.1.1)
unfoldable pub secp384r1 : List ℕ
secp384r1 = element 0x06 (0x2b ∷ 0x81 ∷ 0x04 ∷ 0x00 ∷ 0x22 ∷ [])

-- secp256r1, 1.2.840.10045.3.1.7, and secp521r1, 1.3.132.0.35 (RFC 5480, section 2.1.1.1)
unfoldable pub secp256r1 : List ℕ
secp256r1 = element 0x06 (0x2a ∷ 0x86 ∷ 0x48 ∷ 0xce ∷ 0x3d ∷ 0x03 ∷ 0x01 ∷ 0x07 ∷ [])

unfoldable pub secp521r1 : List ℕ
secp521r1 = element 0x06 (0x2b ∷ 0x81 ∷ 0x04 ∷ 0x00 ∷ 0x23 ∷ [])

-- secp256k1, 1.3.132.0.10 (SEC 2, section 2.4.1)
unfoldable pub secp256k1 : List ℕ
secp256k1 = element 0x06 (0x2b ∷ 0x81 ∷ 0x04 ∷ 0x00 ∷ 0x0a ∷ [])

-- the algorithm of any curve, which its parameters tell
abbrev pub IsCurves : List ℕ → Type 0
IsCurves algorithm = (curve : List ℕ) × (algorithm ≡ ec_public_key ++ curve)

-- octets are an algorithm and its parameters
abbrev pub IsAlgorithm : Algorithm → List ℕ → Type 0
IsAlgorithm Ed25519 algorithm = algorithm ≡ ed25519
IsAlgorithm EllipticCurve algorithm = IsCurves algorithm
IsAlgorithm Rsa algorithm = algorithm ≡ rsa
IsAlgorithm Unknown algorithm = (algorithm ≢ ed25519) × (¬ IsCurves algorithm) × (algorithm ≢ rsa)

-- the parameters are a SEQUENCE, SpecifiedECDomain, in place of a name (RFC 5480, section 2.1.1)
abbrev pub IsExplicit : List ℕ → Type 0
IsExplicit curve = (domain : List ℕ) × (behind : List ℕ) × (curve ≡ element 0x30 domain ++ behind)

-- octets are the parameters of a curve
abbrev pub IsCurve : Curve → List ℕ → Type 0
IsCurve P256 curve = curve ≡ secp256r1
IsCurve P521 curve = curve ≡ secp521r1
IsCurve Secp256k1 curve = curve ≡ secp256k1
IsCurve Explicit curve = IsExplicit curve
IsCurve UnknownCurve curve = (curve ≢ secp256r1) × (curve ≢ secp521r1) × (curve ≢ secp256k1) × (¬ IsExplicit curve)
