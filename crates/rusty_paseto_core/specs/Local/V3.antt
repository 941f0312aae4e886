-- Version 3 (PASETO specification, "Version 3").
use Rattle.std.specs.Prelude.{ℕ, true, List, [], ◌++◌, take, drop, codes}
use Rattle.rusty_paseto_primitives.specs.Hkdf.{hkdf}
use Rattle.rusty_paseto_primitives.specs.Hmac.{hmac}
use Rattle.rusty_paseto_primitives.specs.Keystream.{xored}
use Rattle.rusty_paseto_primitives.specs.Aes.Counter.{aes256_ctr_stream}
use Rattle.rusty_paseto_core.specs.Local.{Design}

-- the encryption key and the first counter block, as one list of 48 bytes
abbrev pub split : List ℕ → List ℕ → List ℕ
split key nonce = hkdf [] key (codes "paseto-encryption-key" ++ nonce) 48

-- the key of the apply_keystream
abbrev pub encryption_key : List ℕ → List ℕ → List ℕ
encryption_key key nonce = take 32 (split key nonce)

-- the first counter block
abbrev pub counter : List ℕ → List ℕ → List ℕ
counter key nonce = drop 32 (split key nonce)

-- the key of the tag
abbrev pub authentication_key : List ℕ → List ℕ → List ℕ
authentication_key key nonce = hkdf [] key (codes "paseto-auth-key-for-aead" ++ nonce) 48

-- the text encrypted by AES-256 in counter mode, the tag by HMAC-SHA384, and the seed itself for a nonce
unfoldable pub v3 : Design
v3 = record {
  version = codes "v3";
  binds_assertion = true;
  apply_keystream = λ key nonce bytes. xored (aes256_ctr_stream (encryption_key key nonce) (counter key nonce)) bytes;
  authentication_key = authentication_key;
  tag = hmac;
  tag_length = 48;
  token_nonce = λ seed text. seed;
}
