-- The texts and the ids of key pairs of version 1 (PASERK specification, types `secret`, `public`, `sid` and `pid`), which
-- are RSA keys of 2048 bits.
use Rattle.std.specs.Prelude.{◌≡◌, ◌⊎◌, ℕ, List, Result, IfOk, IfErr, MatchResult, string_bytes}
use Rattle.std.specs.declared.alloc.Global.{Global}
use Rattle.std.specs.declared.string.String.{String}
use Rattle.base64.specs.GeneralPurpose.{IsBytes}
use Rattle.paseto_rsa.specs.Forms.{IsPublic, IsRsaPrivateKey, private_key_info, public_key_info}
use Rattle.paseto_rsa.specs.Keys.{IsPrivate, rsa_private}
use Rattle.rusty_paseto_paserk.specs.declared.header.PaserkVersion.TheVariants.{V1}
use Rattle.rusty_paseto_paserk.specs.declared.header.PaserkType.{PaserkType}
use Rattle.rusty_paseto_paserk.specs.declared.header.PaserkType.TheVariants.{Secret, Public}
use Rattle.rusty_paseto_paserk.specs.declared.error.PaserkError.{PaserkError}
use Rattle.rusty_paseto_paserk.specs.declared.error.PaserkError.TheVariants.{InvalidKey}
use Rattle.rusty_paseto_paserk.specs.Error.{IsMemory}
use Rattle.rusty_paseto_paserk.specs.Id.{id_of}
use Rattle.rusty_paseto_paserk.specs.Text.{IsKeyFault, writing}

-- ---- writing

-- the text of a private key: that of its RSAPrivateKey
abbrev pub secret_text : List ℕ → List ℕ
secret_text key = writing V1 Secret (rsa_private key)

-- the text of a public key: that of its SubjectPublicKeyInfo
abbrev pub public_text : List ℕ → List ℕ
public_text key = writing V1 Public (public_key_info key)

-- their ids
abbrev pub secret_id : List ℕ → List ℕ
secret_id key = id_of V1 Secret (rsa_private key)

abbrev pub public_id : List ℕ → List ℕ
public_id key = id_of V1 Public (public_key_info key)

-- the answer for octets is the text, or the id, of the key that they are, if they are one
pub record Writes (IsKey : List ℕ → Type 0) (written : List ℕ → List ℕ) (key : List ℕ) (answer : Result (String Global) PaserkError) : Type 0 where
  pub ok : IfOk answer (λ text. IsKey key × (string_bytes text ≡ written key))
  pub refused : IfErr answer (λ error. IsMemory error ⊎ ((error ≡ InvalidKey) × ¬ IsKey key))

-- ---- reading

-- what may stand in a text for a private key: its RSAPrivateKey, or the PrivateKeyInfo itself
abbrev pub IsSecretForm : List ℕ → List ℕ → Type 0
IsSecretForm octets key = (IsPrivate octets × (key ≡ octets)) ⊎ (IsRsaPrivateKey octets × (key ≡ private_key_info octets))

-- what stands there for a public key: its SubjectPublicKeyInfo
abbrev pub IsPublicForm : List ℕ → List ℕ → Type 0
IsPublicForm octets key = IsPublic key × (octets ≡ public_key_info key)

-- the answer for a text is the key that stands in it in a form, exactly where one does
pub record ReadsForm (kind : PaserkType) (IsForm : List ℕ → List ℕ → Type 0) (text : List ℕ) (answer : Result (List ℕ) PaserkError) : Type 0 where
  pub found : IfOk answer (λ key. (octets : List ℕ) × IsBytes octets × (text ≡ writing V1 kind octets) × IsForm octets key)
  pub read : (octets key : List ℕ) → IsBytes octets → IsForm octets key → text ≡ writing V1 kind octets
      → MatchResult answer (λ found. found ≡ key) IsMemory
  pub refused : IfErr answer (IsKeyFault V1 kind (λ octets. (key : List ℕ) × IsForm octets key) text)
