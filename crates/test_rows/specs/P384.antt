-- When a row of a signature of version 3 agrees with the definitions.
use Rattle.std.specs.Prelude.{◌≡◌, ℕ, List, Some}
use Rattle.paseto_p384.specs.P384.{P384Verifies, p384_public, p384_sign}
use Rattle.test_rows.specs.Fields.{Says}

-- the signature is valid
pub record IsVerifiedRow (public message signature : List ℕ) : Type 0 where
  pub public_bytes : List ℕ
  pub message_bytes : List ℕ
  pub signature_bytes : List ℕ
  pub says_public : Says public public_bytes
  pub says_message : Says message message_bytes
  pub says_signature : Says signature signature_bytes
  pub is_valid : P384Verifies public_bytes message_bytes signature_bytes

-- the signature is not valid
pub record IsRefusedRow (public message signature : List ℕ) : Type 0 where
  pub public_bytes : List ℕ
  pub message_bytes : List ℕ
  pub signature_bytes : List ℕ
  pub says_public : Says public public_bytes
  pub says_message : Says message message_bytes
  pub says_signature : Says signature signature_bytes
  pub is_refused : ¬ P384Verifies public_bytes message_bytes signature_bytes

-- the signature is that of the private key, and the public key its own
pub record IsSignedRow (private public message signature : List ℕ) : Type 0 where
  pub private_bytes : List ℕ
  pub message_bytes : List ℕ
  pub signature_bytes : List ℕ
  pub says_private : Says private private_bytes
  pub says_public : Says public (p384_public private_bytes)
  pub says_message : Says message message_bytes
  pub says_signature : Says signature signature_bytes
  pub is_signature : p384_sign private_bytes message_bytes ≡ Some signature_bytes
