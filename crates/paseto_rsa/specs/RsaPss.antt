-- RSASSA-PSS with SHA-384 as a signature scheme on strings of octets.
use Rattle.std.specs.Prelude.{◌≡◌, ◌⊎◌, ℕ, List, length}
use Rattle.sha2.specs.Sha512.{sha384}
use Rattle.rusty_paseto_parts.specs.declared.error.PasetoError.TheVariants.{Cipher, InvalidSignature, KeyRejected, RsaCipher}
use Rattle.rusty_paseto_core.specs.Public.Scheme.{Declining, Refusal}
use Rattle.paseto_rsa.specs.Keys.{IsInRange, IsPrivate, IsPrivateInRange, IsPrivateKey, IsPublicKey, PrivateNumbers, rsa_public}
use Rattle.paseto_rsa.specs.Rsa.{IsPssSignature, pss_sign}

-- octets are a public key, for which the signature of the message is valid
pub record RsaPssVerifies (public message signature : List ℕ) : Type 0 where
  pub n : ℕ
  pub e : ℕ
  pub in_range : IsInRange n e
  pub key : IsPublicKey n e public
  pub valid : IsPssSignature n e (sha384 message) signature

-- the signature of a message with a salt by the numbers of a private key
pub record IsSigned (private message salt signature : List ℕ) : Type 0 where
  pub numbers : PrivateNumbers
  pub in_range : IsPrivateInRange numbers
  pub read : IsPrivateKey numbers private
  pub made : signature ≡ pss_sign numbers (sha384 message) salt

-- what is answered for a signature that is not valid
abbrev pub IsRefused : Refusal
IsRefused public message signature error = error ≡ InvalidSignature

-- what a private key makes of a message with a salt is not valid: its numbers are not of one key
unfoldable pub HasNoSignature : List ℕ → List ℕ → List ℕ → Type 0
HasNoSignature private message salt =
    (made : List ℕ) → IsSigned private message salt made → ¬ RsaPssVerifies (rsa_public private) message made

-- what is answered for what is no private key; for a private key where the generator fails, or where what it makes of the
-- message with a drawn salt is not valid
abbrev pub IsDeclined : Declining
IsDeclined private message error =
    ((¬ IsPrivate private) × (error ≡ KeyRejected))
    ⊎ (IsPrivate private × ((error ≡ Cipher)
    ⊎ ((error ≡ RsaCipher) × ((salt : List ℕ) × (length salt ≡ 48) × HasNoSignature private message salt))))
