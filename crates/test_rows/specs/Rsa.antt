-- When a row of a key or of a signature of version 1 agrees with the definitions.
use Rattle.std.specs.Prelude.{◌≡◌, ℕ, List, Ok}
use Rattle.hex.specs.Hex.{decode_of}
use Rattle.paseto_rsa.specs.Keys.{IsInRange, IsPrivate, IsPublicKey}
use Rattle.paseto_rsa.specs.RsaPss.{IsSigned, RsaPssVerifies}
use Rattle.test_rows.specs.Fields.{Says}

-- the signature is valid
pub record IsVerifiedRow (public message signature : List ℕ) : Type 0 where
  pub public_bytes : List ℕ
  pub message_bytes : List ℕ
  pub signature_bytes : List ℕ
  pub says_public : Says public public_bytes
  pub says_message : Says message message_bytes
  pub says_signature : Says signature signature_bytes
  pub is_valid : RsaPssVerifies public_bytes message_bytes signature_bytes

-- the signature is not valid
pub record IsRefusedRow (public message signature : List ℕ) : Type 0 where
  pub public_bytes : List ℕ
  pub message_bytes : List ℕ
  pub signature_bytes : List ℕ
  pub says_public : Says public public_bytes
  pub says_message : Says message message_bytes
  pub says_signature : Says signature signature_bytes
  pub is_refused : ¬ RsaPssVerifies public_bytes message_bytes signature_bytes

-- the signature is that of the private key with the salt
pub record IsSignedRow (private message salt signature : List ℕ) : Type 0 where
  pub private_bytes : List ℕ
  pub message_bytes : List ℕ
  pub salt_bytes : List ℕ
  pub signature_bytes : List ℕ
  pub says_private : Says private private_bytes
  pub says_message : Says message message_bytes
  pub says_salt : decode_of salt ≡ Ok salt_bytes
  pub says_signature : decode_of signature ≡ Ok signature_bytes
  pub is_signed : IsSigned private_bytes message_bytes salt_bytes signature_bytes

-- octets are a public key
pub record IsPublicRow (key : List ℕ) : Type 0 where
  pub key_bytes : List ℕ
  pub says_key : Says key key_bytes
  pub n : ℕ
  pub e : ℕ
  pub in_range : IsInRange n e
  pub is_key : IsPublicKey n e key_bytes

-- octets are no public key
pub record IsNoPublicRow (key : List ℕ) : Type 0 where
  pub key_bytes : List ℕ
  pub says_key : Says key key_bytes
  pub is_none : (n e : ℕ) → IsInRange n e → IsPublicKey n e key_bytes → ⊥

-- octets are no private key
pub record IsNoPrivateRow (key : List ℕ) : Type 0 where
  pub key_bytes : List ℕ
  pub says_key : Says key key_bytes
  pub is_none : ¬ IsPrivate key_bytes
