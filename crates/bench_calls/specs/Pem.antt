-- Private keys in PEM.
use Rattle.std.specs.Prelude.{ℕ, List}
use Rattle.rusty_paseto_paserk.specs.declared.header.PaserkVersion.{PaserkVersion}
use Rattle.rusty_paseto_paserk.specs.declared.header.PaserkVersion.TheVariants.{V1, V2, V3, V4}
use Rattle.paseto_pem.specs.declared.label.Label.TheVariants.{PrivateKey}
use Rattle.paseto_pem.specs.Ed25519.{IsPrivateOf, IsPrivateWritten}
use Rattle.paseto_pem.specs.P384.{IsPrivateOf as IsCurvePrivateOf, IsPrivateWritten as IsCurvePrivateWritten}
use Rattle.paseto_pem.specs.Rsa.{IsPrivateOf as IsRsaPrivateOf, IsPrivateWritten as IsRsaPrivateWritten}
use Rattle.paseto_pem.specs.Key.{Contents, IsText, IsWritten}

-- which contents under which label are which private key of a version
abbrev pub private_of : PaserkVersion → Contents
private_of V1 = IsRsaPrivateOf
private_of V2 = IsPrivateOf
private_of V3 = IsCurvePrivateOf
private_of V4 = IsPrivateOf

-- which contents under which label are written of which private key of a version
abbrev pub written_of : PaserkVersion → Contents
written_of V1 = IsRsaPrivateWritten
written_of V2 = IsPrivateWritten
written_of V3 = IsCurvePrivateWritten
written_of V4 = IsPrivateWritten

-- the text is the one that is written of a private key
abbrev pub IsPemOf : List ℕ → List ℕ → PaserkVersion → Type 0
IsPemOf key text version = IsWritten (written_of version) PrivateKey key text

-- the text is one of a private key
abbrev pub IsInPem : List ℕ → List ℕ → PaserkVersion → Type 0
IsInPem text key version = IsText (private_of version) key text

-- the contents of a text are a private key
abbrev pub AreContentsOf : List ℕ → List ℕ → PaserkVersion → Type 0
AreContentsOf contents key version = private_of version PrivateKey contents key
