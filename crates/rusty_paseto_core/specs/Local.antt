-- What the local versions 1, 3 and 4 mean, as functions on lists of bytes (PASETO specification,
-- "Version 1", "Version 3" and "Version 4").
pub mod Sealing
pub mod Keystreams
pub mod TagCollision
pub mod Forgery
pub mod BoxForgery
pub mod Opened
pub mod Opening
pub mod V1
pub mod V1Laws
pub mod V3
pub mod V3Laws
pub mod V4
pub mod V4Laws
pub mod SealedBox
pub mod Boxed
use Rattle.std.specs.Prelude.{◌≡◌, ℕ, ◌≤◌, Bool, List, [], ◌∷◌, ◌++◌, length, if◌then◌else◌, codes}
use Rattle.rusty_paseto_primitives.specs.Bytes.{IsBytes}
use Rattle.rusty_paseto_parts.specs.Header.{header_text}
use Rattle.rusty_paseto_core.specs.Framing.{IsHeader}

-- the purpose of an encrypted token
abbrev pub local : List ℕ
local = codes "local"

-- a local version: its text, whether its tag covers the implicit assertion, its keystream over a text
-- under a key and a nonce, its authentication key under a key and a nonce, its tag under an
-- authentication key, the tag's length, and the token's nonce from its seed and the text
pub record Design : Type 0 where
  pub version : List ℕ
  pub binds_assertion : Bool
  pub apply_keystream : List ℕ → List ℕ → List ℕ → List ℕ
  pub authentication_key : List ℕ → List ℕ → List ℕ
  pub tag : List ℕ → List ℕ → List ℕ
  pub tag_length : ℕ
  pub token_nonce : List ℕ → List ℕ → List ℕ

-- a nonce is 32 bytes
pub record IsNonce (nonce : List ℕ) : Type 0 where
  pub size : length nonce ≡ 32
  pub bytes : IsBytes nonce

-- the header that begins the version's local tokens
abbrev pub header : Design → List ℕ
header design = header_text design.version local

-- what each design has: encryption keeps the length and undoes itself, tags have their length, and
-- what it makes of bytes is bytes
pub record IsLawful (design : Design) : Type 0 where
  pub length_applied : (key nonce bytes : List ℕ) → length (design.apply_keystream key nonce bytes) ≡ length bytes
  pub applied_twice : (key nonce bytes : List ℕ) → design.apply_keystream key nonce (design.apply_keystream key nonce bytes) ≡ bytes
  pub bytes_applied : (key nonce bytes : List ℕ) → IsBytes bytes → IsBytes (design.apply_keystream key nonce bytes)
  pub length_tag : (key message : List ℕ) → length (design.tag key message) ≡ design.tag_length
  pub bytes_tag : (key message : List ℕ) → IsBytes (design.tag key message)
  pub is_header : IsHeader design.version local (header design)
  pub nonce : (seed text : List ℕ) → IsNonce seed → IsNonce (design.token_nonce seed text)
