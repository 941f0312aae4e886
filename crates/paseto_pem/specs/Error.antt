-- What is said of errors.
use Rattle.std.specs.Prelude.{⊤, ℕ, List, codes}
use Rattle.paseto_pem.specs.declared.found.Algorithm.{Algorithm}
use Rattle.paseto_pem.specs.declared.found.Algorithm.TheVariants.{Ed25519, EllipticCurve, Rsa, Unknown}
use Rattle.paseto_pem.specs.declared.found.Curve.{Curve}
use Rattle.paseto_pem.specs.declared.found.Curve.TheVariants.{P256, P521, Secp256k1, Explicit, Unknown as UnknownCurve}
use Rattle.paseto_pem.specs.declared.label.Label.{Label}
use Rattle.paseto_pem.specs.declared.label.Label.TheVariants.{PrivateKey, EncryptedPrivateKey, PublicKey, EcPrivateKey, RsaPrivateKey, RsaPublicKey, OpenSshPrivateKey}
use Rattle.paseto_pem.specs.declared.error.PemError.{PemError}
use Rattle.paseto_pem.specs.declared.error.PemError.TheVariants.{NotPem, TwoKeys, OtherLabel, Encrypted, InvalidDer, OtherAlgorithm, OtherCurve, OtherSize, OtherHalf, InvalidKey, Memory}

-- memory was refused
abbrev pub IsMemory : PemError → Type 0
IsMemory (Memory _) = ⊤
IsMemory _ = ⊥

-- what is said of another label, algorithm or curve
abbrev pub label_text : Label → List ℕ
label_text PrivateKey = codes "The text is a private key"
label_text EncryptedPrivateKey = codes "The text is an encrypted key"
label_text PublicKey = codes "The text is a public key"
label_text EcPrivateKey = codes "The text is a private key of a curve"
label_text RsaPrivateKey = codes "The text is a private key of RSA"
label_text RsaPublicKey = codes "The text is a public key of RSA"
label_text OpenSshPrivateKey = codes "The text is a private key of OpenSSH"

abbrev pub algorithm_text : Algorithm → List ℕ
algorithm_text Ed25519 = codes "The key is one of Ed25519"
algorithm_text EllipticCurve = codes "The key is one of a curve"
algorithm_text Rsa = codes "The key is one of RSA"
algorithm_text Unknown = codes "The key is one of another algorithm"

abbrev pub curve_text : Curve → List ℕ
curve_text P256 = codes "The key is one of P-256"
curve_text P521 = codes "The key is one of P-521"
curve_text Secp256k1 = codes "The key is one of secp256k1"
curve_text Explicit = codes "The key is one of a curve with no name"
curve_text UnknownCurve = codes "The key is one of another curve"

-- what each error says
abbrev pub error_text : PemError → List ℕ
error_text NotPem = codes "The text is no PEM"
error_text TwoKeys = codes "The text has more than one key"
error_text (OtherLabel label) = label_text label
error_text Encrypted = codes "The key is encrypted"
error_text InvalidDer = codes "The key is not in DER"
error_text (OtherAlgorithm algorithm) = algorithm_text algorithm
error_text (OtherCurve curve) = curve_text curve
error_text (OtherSize _) = codes "The key has another size"
error_text OtherHalf = codes "The public key is not that of the private key"
error_text InvalidKey = codes "The key was not in the correct format"
error_text (Memory _) = codes "No memory was found"
