-- The text that is written of an RSA key is read as this key: what the contracts of reading answer for it.
use Rattle.std.specs.Prelude.{◌≡◌, ℕ, List, Result, MatchResult}
use Rattle.base64.specs.GeneralPurpose.{IsBytes}
use Rattle.paseto_rsa.specs.Forms.{IsPublic}
use Rattle.paseto_rsa.specs.Keys.{IsPrivate}
use Rattle.rusty_paseto_paserk.specs.declared.header.PaserkType.TheVariants.{Secret, Public}
use Rattle.rusty_paseto_paserk.specs.declared.error.PaserkError.{PaserkError}
use Rattle.rusty_paseto_paserk.specs.Error.{IsMemory}
use Rattle.rusty_paseto_paserk.specs.Rsa.{IsPublicForm, IsSecretForm, ReadsForm, public_text, secret_text}

-- the text of a private key
abbrev pub PrivateKeysRead : Type 0
PrivateKeysRead = (key : List ℕ) (answer : Result (List ℕ) PaserkError) → IsBytes key → IsPrivate key
    → ReadsForm Secret IsSecretForm (secret_text key) answer → MatchResult answer (λ found. found ≡ key) IsMemory

-- the text of a public key
abbrev pub PublicKeysRead : Type 0
PublicKeysRead = (key : List ℕ) (answer : Result (List ℕ) PaserkError) → IsBytes key → IsPublic key
    → ReadsForm Public IsPublicForm (public_text key) answer → MatchResult answer (λ found. found ≡ key) IsMemory
