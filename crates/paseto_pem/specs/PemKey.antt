-- A key of a text, of whatever algorithm. Its label and its contents say which reading is theirs: that of a private or of a
-- public key of Ed25519, of P-384 or of RSA.
use Rattle.std.specs.Prelude.{◌≡◌, ◌⊎◌, ⊤, ℕ, List, Option, Result, IfOk, IfErr, MatchResult}
use Rattle.paseto_pem.specs.declared.label.Label.{Label}
use Rattle.paseto_pem.specs.declared.label.Label.TheVariants.{PrivateKey, EncryptedPrivateKey, PublicKey, EcPrivateKey, RsaPrivateKey, RsaPublicKey, OpenSshPrivateKey}
use Rattle.paseto_pem.specs.declared.found.Algorithm.{Algorithm}
use Rattle.paseto_pem.specs.declared.found.Algorithm.TheVariants.{Ed25519, EllipticCurve, Rsa, Unknown}
use Rattle.paseto_pem.specs.declared.error.PemError.{PemError}
use Rattle.paseto_pem.specs.declared.error.PemError.TheVariants.{InvalidDer, OtherAlgorithm}
use Rattle.paseto_pem.specs.declared.pem_key.PemKey.{PemKey}
use Rattle.paseto_pem.specs.declared.pem_key.PemKey.TheVariants.{RsaPrivate, RsaPublic, P384Private, P384Public, Ed25519Private, Ed25519Public}
use Rattle.paseto_pem.specs.Algorithm.{IsAlgorithm}
use Rattle.paseto_pem.specs.Ed25519.{IsPrivateFault as IsEdwardsPrivateFault, IsPrivateOf as IsEdwardsPrivateOf, IsPublicFault as IsEdwardsPublicFault, IsPublicOf as IsEdwardsPublicOf}
use Rattle.paseto_pem.specs.Error.{IsMemory}
use Rattle.paseto_pem.specs.Info.{IsNoPrivateInfo, IsNoPublicInfo, IsPrivateInfo, public_key_info}
use Rattle.paseto_pem.specs.Key.{Faults, IsKeyFault, IsOtherLabel, IsText}
use Rattle.paseto_pem.specs.P384.{IsPrivateFault as IsCurvePrivateFault, IsPrivateOf as IsCurvePrivateOf, IsPublicFault as IsCurvePublicFault, IsPublicOf as IsCurvePublicOf}
use Rattle.paseto_pem.specs.Rsa.{IsPrivateFault as IsRsaPrivateFault, IsPrivateOf as IsRsaPrivateOf, IsPublicFault as IsRsaPublicFault, IsPublicOf as IsRsaPublicOf}

-- the text is that of the key
abbrev pub IsPemKey : PemKey → List ℕ → Type 0
IsPemKey (RsaPrivate key) text = IsText IsRsaPrivateOf key text
IsPemKey (RsaPublic key) text = IsText IsRsaPublicOf key text
IsPemKey (P384Private key) text = IsText IsCurvePrivateOf key text
IsPemKey (P384Public key) text = IsText IsCurvePublicOf key text
IsPemKey (Ed25519Private key) text = IsText IsEdwardsPrivateOf key text
IsPemKey (Ed25519Public key) text = IsText IsEdwardsPublicOf key text

-- the contents under the label are the key
abbrev pub IsHeldKey : PemKey → Label → List ℕ → Type 0
IsHeldKey (RsaPrivate key) label contents = IsRsaPrivateOf label contents key
IsHeldKey (RsaPublic key) label contents = IsRsaPublicOf label contents key
IsHeldKey (P384Private key) label contents = IsCurvePrivateOf label contents key
IsHeldKey (P384Public key) label contents = IsCurvePublicOf label contents key
IsHeldKey (Ed25519Private key) label contents = IsEdwardsPrivateOf label contents key
IsHeldKey (Ed25519Public key) label contents = IsEdwardsPublicOf label contents key

-- a private key of this algorithm stands under the label, which tells it, or in PKCS #8 leaves it to the contents
abbrev pub IsPrivateKind : Algorithm → Label → List ℕ → Type 0
IsPrivateKind kind PrivateKey contents =
    (algorithm key : List ℕ) × (public : Option (List ℕ)) × IsPrivateInfo algorithm key public contents × IsAlgorithm kind algorithm
IsPrivateKind EllipticCurve EcPrivateKey contents = ⊤
IsPrivateKind Rsa RsaPrivateKey contents = ⊤
IsPrivateKind _ _ contents = ⊥

-- the same of a public key
abbrev pub IsPublicKind : Algorithm → Label → List ℕ → Type 0
IsPublicKind kind PublicKey contents =
    (algorithm key : List ℕ) × (contents ≡ public_key_info algorithm key) × IsAlgorithm kind algorithm
IsPublicKind Rsa RsaPublicKey contents = ⊤
IsPublicKind _ _ contents = ⊥

-- why a private key of an algorithm is not read
abbrev pub IsPrivateKindFault : Algorithm → Faults
IsPrivateKindFault Ed25519 label contents error = IsEdwardsPrivateFault label contents error
IsPrivateKindFault EllipticCurve label contents error = IsCurvePrivateFault label contents error
IsPrivateKindFault Rsa label contents error = IsRsaPrivateFault label contents error
IsPrivateKindFault Unknown label contents error = error ≡ OtherAlgorithm Unknown

-- the same of a public key
abbrev pub IsPublicKindFault : Algorithm → Faults
IsPublicKindFault Ed25519 label contents error = IsEdwardsPublicFault label contents error
IsPublicKindFault EllipticCurve label contents error = IsCurvePublicFault label contents error
IsPublicKindFault Rsa label contents error = IsRsaPublicFault label contents error
IsPublicKindFault Unknown label contents error = error ≡ OtherAlgorithm Unknown

-- why what stands under the label tells no algorithm: the label is that of no key that is read, or the contents are not its own
abbrev pub IsNoKind : Faults
IsNoKind PrivateKey contents error = IsNoPrivateInfo contents × (error ≡ InvalidDer)
IsNoKind PublicKey contents error = IsNoPublicInfo contents × (error ≡ InvalidDer)
IsNoKind EncryptedPrivateKey contents error = IsOtherLabel EncryptedPrivateKey error
IsNoKind OpenSshPrivateKey contents error = IsOtherLabel OpenSshPrivateKey error
IsNoKind _ contents error = ⊥

-- why contents under a label are no key: that of the one reading that is theirs, or they have none
abbrev pub IsHeldFault : Faults
IsHeldFault label contents error =
    IsNoKind label contents error
    ⊎ (((kind : Algorithm) × IsPrivateKind kind label contents × IsPrivateKindFault kind label contents error)
    ⊎ ((kind : Algorithm) × IsPublicKind kind label contents × IsPublicKindFault kind label contents error))

-- the errors of reading a text as a key of whatever algorithm, and when they come
abbrev pub IsAnyFault : List ℕ → PemError → Type 0
IsAnyFault text error = IsKeyFault IsHeldFault text error

-- the answer for a text is the key whose text it is, exactly where it is the text of one
pub record ReadsAnyKey (text : List ℕ) (answer : Result PemKey PemError) : Type 0 where
  pub found : IfOk answer (λ key. IsPemKey key text)
  pub read : (key : PemKey) → IsPemKey key text → MatchResult answer (λ found. found ≡ key) IsMemory
  pub refused : IfErr answer (IsAnyFault text)

-- the answer for contents under a label is the key that they are
pub record ReadsHeldKey (label : Label) (contents : List ℕ) (answer : Result PemKey PemError) : Type 0 where
  pub found : IfOk answer (λ key. IsHeldKey key label contents)
  pub read : (key : PemKey) → IsHeldKey key label contents → MatchResult answer (λ found. found ≡ key) IsMemory
  pub refused : IfErr answer (λ error. IsMemory error ⊎ IsHeldFault label contents error)
