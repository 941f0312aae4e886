-- The lines of keys in PEM.
use Rattle.std.specs.Prelude.{◌≡◌, ◌⊎◌, ⊤, ℕ, List}
use Rattle.paseto_pem.specs.Key.{Contents, IsWritten}
use Rattle.paseto_pem.specs.PemKey.{IsAnyFault, IsPemKey}
use Rattle.paseto_pem.specs.declared.label.Label.{Label}
use Rattle.paseto_pem.specs.declared.label.Label.TheVariants.{PrivateKey, PublicKey}
use Rattle.paseto_pem.specs.declared.pem_key.PemKey.{PemKey}
use Rattle.paseto_pem.specs.declared.pem_key.PemKey.TheVariants.{RsaPrivate, RsaPublic, P384Private, P384Public, Ed25519Private, Ed25519Public}
use Rattle.paseto_pem.specs.Ed25519.{IsPrivateWritten as IsEdwardsPrivateWritten, IsPublicOf as IsEdwardsPublicOf}
use Rattle.paseto_pem.specs.P384.{IsPrivateWritten as IsCurvePrivateWritten, IsPublicWritten as IsCurvePublicWritten}
use Rattle.paseto_pem.specs.Rsa.{IsPrivateWritten as IsRsaPrivateWritten, IsPublicWritten as IsRsaPublicWritten}
use Rattle.paseto_pem.specs.declared.error.PemError.TheVariants.{InvalidKey}
use Rattle.rusty_paseto_paserk.specs.declared.header.PaserkVersion.{PaserkVersion}
use Rattle.rusty_paseto_paserk.specs.declared.header.PaserkVersion.TheVariants.{V1, V2, V3, V4}
use Rattle.rusty_paseto_paserk.specs.declared.header.PaserkType.{PaserkType}
use Rattle.rusty_paseto_paserk.specs.declared.header.PaserkType.TheVariants.{Local, Secret, Public}
use Rattle.rusty_paseto_paserk.specs.Header.{HasHeader}
use Rattle.rusty_paseto_paserk.specs.Rsa.{public_text}
use Rattle.rusty_paseto_paserk.specs.Text.{writing}
use Rattle.paseto_key_files.specs.declared.error.KeyFileError.{KeyFileError}
use Rattle.paseto_key_files.specs.declared.error.KeyFileError.TheVariants.{LocalInPem, Memory, Pem, SecondInPem}
use Rattle.paseto_key_files.specs.Line.{IsBeginFault, IsPaserkFault, IsPrivateFault, IsPrivateKey, IsPrivateLine, IsPublicKey, IsRsaPublicFault, IsRsaPublicLine, IsWritingOf, private_line}

-- ---- the line of a text in PEM

-- the line of a key that is read: one of Ed25519 is taken as one of version 4
abbrev pub line_of : PemKey → List ℕ
line_of (RsaPrivate key) = private_line V1 key
line_of (RsaPublic key) = public_text key
line_of (P384Private key) = writing V3 Secret key
line_of (P384Public key) = writing V3 Public key
line_of (Ed25519Private key) = writing V4 Secret key
line_of (Ed25519Public key) = writing V4 Public key

-- the line is that of a key whose text in PEM this is
pub record PemLine (text line : List ℕ) : Type 0 where
  pub key : PemKey
  pub held : IsPemKey key text
  pub line_is : line ≡ line_of key

-- why it is that of no key
abbrev pub PemLineFault : List ℕ → KeyFileError → Type 0
PemLineFault text (Pem error) = IsAnyFault text error
PemLineFault text (Memory _) = ⊤
PemLineFault text _ = ⊥

-- ---- the text in PEM of a line

-- the text is the one that `openssl pkey` writes of the line's key
pub record IsToPem (IsLine : List ℕ → List ℕ → Type 0) (IsKeyOf : Contents) (label : Label) (line text : List ℕ) : Type 0 where
  pub key : List ℕ
  pub is_line : IsLine key line
  pub written : IsWritten IsKeyOf label key text

-- the line's key has none
abbrev pub HasNoPem : (List ℕ → List ℕ → Type 0) → Contents → Label → List ℕ → KeyFileError → Type 0
HasNoPem IsLine IsKeyOf label line (Pem InvalidKey) = (key : List ℕ) × IsLine key line × ((contents : List ℕ) → ¬ IsKeyOf label contents key)
HasNoPem IsLine IsKeyOf label line (Memory _) = ⊤
HasNoPem IsLine IsKeyOf label line _ = ⊥

-- why a line in PASERK has no text in PEM: it is that of no key, or of one that has none
abbrev pub IsNotToPem : PaserkVersion → PaserkType → (List ℕ → Type 0) → Contents → Label → List ℕ → KeyFileError → Type 0
IsNotToPem version kind IsKey IsKeyOf label line error =
    IsPaserkFault version kind IsKey line error ⊎ HasNoPem (IsWritingOf version kind IsKey) IsKeyOf label line error

-- the text of a line of a version and a type
abbrev pub WritesPemAs : PaserkVersion → PaserkType → List ℕ → List ℕ → Type 0
WritesPemAs V1 Secret line text = IsToPem (IsPrivateLine V1) IsRsaPrivateWritten PrivateKey line text
WritesPemAs V1 Public line text = IsToPem IsRsaPublicLine IsRsaPublicWritten PublicKey line text
WritesPemAs V3 Secret line text = IsToPem (IsWritingOf V3 Secret (IsPrivateKey V3)) IsCurvePrivateWritten PrivateKey line text
WritesPemAs V3 Public line text = IsToPem (IsWritingOf V3 Public (IsPublicKey V3)) IsCurvePublicWritten PublicKey line text
WritesPemAs V4 Secret line text = IsToPem (IsWritingOf V4 Secret (IsPrivateKey V4)) IsEdwardsPrivateWritten PrivateKey line text
WritesPemAs V4 Public line text = IsToPem (IsWritingOf V4 Public (IsPublicKey V4)) IsEdwardsPublicOf PublicKey line text
WritesPemAs _ _ line text = ⊥

-- why there is none: each key of version 1 has one
abbrev pub WritesNoPemAs : PaserkVersion → PaserkType → List ℕ → KeyFileError → Type 0
WritesNoPemAs version Local line error = error ≡ LocalInPem
WritesNoPemAs V1 Secret line error = IsPrivateFault V1 line error
WritesNoPemAs V1 Public line error = IsRsaPublicFault line error
WritesNoPemAs V2 Secret line error = error ≡ SecondInPem
WritesNoPemAs V2 Public line error = error ≡ SecondInPem
WritesNoPemAs V3 Secret line error = IsNotToPem V3 Secret (IsPrivateKey V3) IsCurvePrivateWritten PrivateKey line error
WritesNoPemAs V3 Public line error = IsNotToPem V3 Public (IsPublicKey V3) IsCurvePublicWritten PublicKey line error
WritesNoPemAs V4 Secret line error = IsNotToPem V4 Secret (IsPrivateKey V4) IsEdwardsPrivateWritten PrivateKey line error
WritesNoPemAs V4 Public line error = IsNotToPem V4 Public (IsPublicKey V4) IsEdwardsPublicOf PublicKey line error

-- the text of a line
abbrev pub WritesPem : List ℕ → List ℕ → Type 0
WritesPem line text = (version : PaserkVersion) × (kind : PaserkType) × WritesPemAs version kind line text

-- why it has none
abbrev pub WritesNoPem : List ℕ → KeyFileError → Type 0
WritesNoPem line error =
    IsBeginFault line error
    ⊎ ((version : PaserkVersion) × (kind : PaserkType) × HasHeader version kind line × WritesNoPemAs version kind line error)
