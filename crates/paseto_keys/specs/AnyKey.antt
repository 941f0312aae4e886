-- What a key is: its type, its version and its bytes.
use Rattle.std.specs.Prelude.{◌==◌, ◌&&◌, ℕ, Bool, true, false, List, length}
use Rattle.rusty_paseto_core.specs.Context.{Binding}
use Rattle.rusty_paseto_parts.specs.PublicKey.{is_compressed}
use Rattle.rusty_paseto_paserk.specs.declared.header.PaserkType.{PaserkType}
use Rattle.rusty_paseto_paserk.specs.declared.header.PaserkType.TheVariants.{Local, Secret, Public}
use Rattle.rusty_paseto_paserk.specs.declared.header.PaserkVersion.{PaserkVersion}
use Rattle.rusty_paseto_paserk.specs.declared.header.PaserkVersion.TheVariants.{V1, V2, V3, V4}
use Rattle.paseto_keys.specs.declared.any_key.AnyKey.{AnyKey}
use Rattle.paseto_keys.specs.declared.any_key.AnyKey.TheVariants.{V1Local, V2Local, V3Local, V4Local, V1Secret, V2Secret, V3Secret, V4Secret, V1Public, V2Public, V3Public, V4Public}

-- a key without its representation
pub record KeyParts : Type 0 where
  pub kind : PaserkType
  pub version : PaserkVersion
  pub bytes : List ℕ

abbrev pub key_parts : PaserkType → PaserkVersion → List ℕ → KeyParts
key_parts kind version bytes = record { kind = kind; version = version; bytes = bytes }

-- what a key is
abbrev pub parts_of : AnyKey → KeyParts
parts_of (V1Local key) = key_parts Local V1 key
parts_of (V2Local key) = key_parts Local V2 key
parts_of (V3Local key) = key_parts Local V3 key
parts_of (V4Local key) = key_parts Local V4 key
parts_of (V1Secret key) = key_parts Secret V1 key
parts_of (V2Secret key) = key_parts Secret V2 key
parts_of (V3Secret key) = key_parts Secret V3 key
parts_of (V4Secret key) = key_parts Secret V4 key
parts_of (V1Public key) = key_parts Public V1 key
parts_of (V2Public key) = key_parts Public V2 key
parts_of (V3Public key) = key_parts Public V3 key
parts_of (V4Public key) = key_parts Public V4 key

-- the bytes may be a key of this type and version
abbrev pub is_key : PaserkType → PaserkVersion → List ℕ → Bool
is_key Local _ bytes = length bytes == 32
is_key Secret V1 bytes = true
is_key Secret V3 bytes = length bytes == 48
is_key Secret _ bytes = length bytes == 64
is_key Public V1 bytes = true
is_key Public V3 bytes = length bytes == 49 && is_compressed bytes
is_key Public _ bytes = length bytes == 32

-- the keys that read tokens: those of local tokens, and the public ones
abbrev pub reads_tokens : PaserkType → Bool
reads_tokens Secret = false
reads_tokens _ = true

-- the keys that write tokens: those of local tokens, and the private ones
abbrev pub writes_tokens : PaserkType → Bool
writes_tokens Public = false
writes_tokens _ = true

-- the versions with implicit assertions
abbrev pub takes_assertion : PaserkVersion → Bool
takes_assertion V3 = true
takes_assertion V4 = true
takes_assertion _ = false

-- what a key, a footer and an assertion bind a token to
abbrev pub binding : List ℕ → List ℕ → List ℕ → Binding
binding key footer assertion = record { key = key; footer = footer; assertion = assertion }
