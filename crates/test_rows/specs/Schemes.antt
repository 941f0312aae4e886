-- When a row of the box of version 2 or of Ed25519 agrees with the definitions.
use Rattle.std.specs.Prelude.{◌≡◌, ◌≢◌, ◌↔◌, ℕ, Bool, IsTrue, List, ◌++◌, take, drop, Ok, Some}
use Rattle.hex.specs.Hex.{decode_of}
use Rattle.rusty_paseto_primitives.specs.Bytes.{IsBytes}
use Rattle.paseto_ed25519.specs.Ed25519.{Ed25519Verifies, IsOwn, ed25519_public, ed25519_sign, partner}
use Rattle.paseto_xchacha20poly1305.specs.Sealing.{box_sealing}
use Rattle.test_rows.specs.Fields.{Says}

-- the public key is the seed's, and the signature is the message's under both
pub record IsSigningRow (seed public message signature : List ℕ) : Type 0 where
  pub seed_bytes : List ℕ
  pub public_bytes : List ℕ
  pub message_bytes : List ℕ
  pub says_seed : decode_of seed ≡ Ok seed_bytes
  pub says_public : decode_of public ≡ Ok public_bytes
  pub says_message : Says message message_bytes
  pub is_public : public_bytes ≡ ed25519_public seed_bytes
  pub says_signature : Says signature (ed25519_sign (seed_bytes ++ public_bytes) message_bytes)

-- the public key is the private key's own half, and what is signed is the signature under it, which is valid, and the message
pub record IsSignedRow (private public message signed : List ℕ) : Type 0 where
  pub private_bytes : List ℕ
  pub message_bytes : List ℕ
  pub signed_bytes : List ℕ
  pub says_private : decode_of private ≡ Ok private_bytes
  pub says_public : Says public (partner private_bytes)
  pub says_message : Says message message_bytes
  pub says_signed : Says signed signed_bytes
  pub is_own : IsOwn private_bytes
  pub is_signature : take 64 signed_bytes ≡ ed25519_sign private_bytes message_bytes
  pub is_message : drop 64 signed_bytes ≡ message_bytes
  pub is_valid : Ed25519Verifies (partner private_bytes) message_bytes (take 64 signed_bytes)

-- the verdict on the signature
pub record IsVerdictRow (public message signature : List ℕ) (valid : Bool) : Type 0 where
  pub public_bytes : List ℕ
  pub message_bytes : List ℕ
  pub signature_bytes : List ℕ
  pub says_public : Says public public_bytes
  pub says_message : Says message message_bytes
  pub says_signature : decode_of signature ≡ Ok signature_bytes
  pub verdict : IsTrue valid ↔ Ed25519Verifies public_bytes message_bytes signature_bytes

-- the box is the message's sealing
pub record IsBoxRow (key nonce associated message boxed : List ℕ) : Type 0 where
  pub key_bytes : List ℕ
  pub nonce_bytes : List ℕ
  pub associated_bytes : List ℕ
  pub message_bytes : List ℕ
  pub boxed_bytes : List ℕ
  pub says_key : decode_of key ≡ Ok key_bytes
  pub says_nonce : decode_of nonce ≡ Ok nonce_bytes
  pub says_associated : Says associated associated_bytes
  pub says_message : Says message message_bytes
  pub says_boxed : Says boxed boxed_bytes
  pub is_sealing : box_sealing key_bytes nonce_bytes associated_bytes message_bytes ≡ Some boxed_bytes

-- the box is no message's sealing
pub record IsRefusedBoxRow (key nonce associated boxed : List ℕ) : Type 0 where
  pub key_bytes : List ℕ
  pub nonce_bytes : List ℕ
  pub associated_bytes : List ℕ
  pub boxed_bytes : List ℕ
  pub says_key : decode_of key ≡ Ok key_bytes
  pub says_nonce : decode_of nonce ≡ Ok nonce_bytes
  pub says_associated : Says associated associated_bytes
  pub says_boxed : Says boxed boxed_bytes
  pub is_none : (message : List ℕ) → IsBytes message → box_sealing key_bytes nonce_bytes associated_bytes message ≢ Some boxed_bytes
