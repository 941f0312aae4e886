-- Version 1 (PASETO specification, "Version 1").
use Rattle.std.specs.Prelude.{ℕ, false, List, take, drop, codes}
use Rattle.rusty_paseto_primitives.specs.Hkdf.{hkdf}
use Rattle.rusty_paseto_primitives.specs.Hmac.{hmac}
use Rattle.rusty_paseto_primitives.specs.Keystream.{xored}
use Rattle.rusty_paseto_primitives.specs.Aes.Counter.{aes256_ctr_stream}
use Rattle.rusty_paseto_core.specs.Local.{Design}

-- the front half of the token's nonce, the salt of both keys
abbrev pub salt : List ℕ → List ℕ
salt nonce = take 16 nonce

-- the back half of the token's nonce, the first counter block
abbrev pub counter : List ℕ → List ℕ
counter nonce = drop 16 nonce

-- the key of the apply_keystream
abbrev pub encryption_key : List ℕ → List ℕ → List ℕ
encryption_key key nonce = hkdf (salt nonce) key (codes "paseto-encryption-key") 32

-- the key of the tag
abbrev pub authentication_key : List ℕ → List ℕ → List ℕ
authentication_key key nonce = hkdf (salt nonce) key (codes "paseto-auth-key-for-aead") 32

-- the token's nonce: the front of the text's authentication code under its seed
abbrev pub token_nonce : List ℕ → List ℕ → List ℕ
token_nonce seed text = take 32 (hmac seed text)

-- the text encrypted by AES-256 in counter mode, the tag by HMAC-SHA384, and no implicit assertion
unfoldable pub v1 : Design
v1 = record {
  version = codes "v1";
  binds_assertion = false;
  apply_keystream = λ key nonce bytes. xored (aes256_ctr_stream (encryption_key key nonce) (counter nonce)) bytes;
  authentication_key = authentication_key;
  tag = hmac;
  tag_length = 48;
  token_nonce = token_nonce;
}
