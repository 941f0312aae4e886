-- Version 4 (PASETO specification, "Version 4").
use Rattle.std.specs.Prelude.{ℕ, true, List, ◌++◌, take, drop, codes}
use Rattle.rusty_paseto_primitives.specs.Blake2.Keyed.{blake2b}
use Rattle.rusty_paseto_primitives.specs.Keystream.{xored}
use Rattle.rusty_paseto_primitives.specs.ChaCha.Stream.{xchacha20_stream}
use Rattle.rusty_paseto_core.specs.Local.{Design}

-- the encryption key and the stream's nonce, as one list of 56 bytes
abbrev pub split : List ℕ → List ℕ → List ℕ
split key nonce = blake2b key 56 (codes "paseto-encryption-key" ++ nonce)

-- the key of the stream
abbrev pub encryption_key : List ℕ → List ℕ → List ℕ
encryption_key key nonce = take 32 (split key nonce)

-- the nonce of the stream
abbrev pub stream_nonce : List ℕ → List ℕ → List ℕ
stream_nonce key nonce = drop 32 (split key nonce)

-- the key of the tag
abbrev pub authentication_key : List ℕ → List ℕ → List ℕ
authentication_key key nonce = blake2b key 32 (codes "paseto-auth-key-for-aead" ++ nonce)

-- the text encrypted by XChaCha20, the tag by BLAKE2b, and the seed itself for a nonce
unfoldable pub v4 : Design
v4 = record {
  version = codes "v4";
  binds_assertion = true;
  apply_keystream = λ key nonce bytes. xored (xchacha20_stream (encryption_key key nonce) (stream_nonce key nonce)) bytes;
  authentication_key = authentication_key;
  tag = λ key encoding. blake2b key 32 encoding;
  tag_length = 32;
  token_nonce = λ seed text. seed;
}
