-- When a row of a primitive agrees with the definitions.
use Rattle.std.specs.Prelude.{◌≡◌, ℕ, List, Ok, length}
use Rattle.hex.specs.Hex.{decode_of}
use Rattle.rusty_paseto_primitives.specs.Keystream.{xored}
use Rattle.rusty_paseto_primitives.specs.Blake2.Keyed.{blake2b}
use Rattle.rusty_paseto_primitives.specs.Hkdf.{hkdf}
use Rattle.rusty_paseto_primitives.specs.Hmac.{hmac}
use Rattle.test_rows.specs.Fields.{Says}

-- the output is the message's hash of this many bytes under the key
pub record IsDigestRow (count : ℕ) (key message output : List ℕ) : Type 0 where
  pub key_bytes : List ℕ
  pub message_bytes : List ℕ
  pub says_key : Says key key_bytes
  pub says_message : Says message message_bytes
  pub says_output : Says output (blake2b key_bytes count message_bytes)

-- the output is the data, xored by a cipher's stream of the key and the nonce
pub record IsMaskingRow (stream : List ℕ → List ℕ → ℕ → ℕ) (key nonce input output : List ℕ) : Type 0 where
  pub key_bytes : List ℕ
  pub nonce_bytes : List ℕ
  pub input_bytes : List ℕ
  pub says_key : decode_of key ≡ Ok key_bytes
  pub says_nonce : decode_of nonce ≡ Ok nonce_bytes
  pub says_input : Says input input_bytes
  pub says_output : Says output (xored (stream key_bytes nonce_bytes) input_bytes)

-- the output is the message's code under the key
pub record IsCodeRow (key message output : List ℕ) : Type 0 where
  pub key_bytes : List ℕ
  pub message_bytes : List ℕ
  pub says_key : Says key key_bytes
  pub says_message : Says message message_bytes
  pub says_output : Says output (hmac key_bytes message_bytes)

-- the output is what the salt, the material and the info give, in as many bytes as it has
pub record IsDerivationRow (salt material info output : List ℕ) : Type 0 where
  pub salt_bytes : List ℕ
  pub material_bytes : List ℕ
  pub info_bytes : List ℕ
  pub output_bytes : List ℕ
  pub says_salt : Says salt salt_bytes
  pub says_material : Says material material_bytes
  pub says_info : Says info info_bytes
  pub says_output : Says output output_bytes
  pub is_derived : output_bytes ≡ hkdf salt_bytes material_bytes info_bytes (length output_bytes)
