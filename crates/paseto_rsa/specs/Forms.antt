-- The forms of RSA keys of 2048 bits beside those that the scheme takes: RSAPrivateKey, which stands in a PrivateKeyInfo
-- (RFC 8017, appendix A.1.2), and SubjectPublicKeyInfo, in which an RSAPublicKey stands (RFC 5280, section 4.1).
use Rattle.std.specs.Prelude.{◌≡◌, ◌==◌, ◌&&◌, ℕ, ◌%◌, ◌^◌, ◌<◌, ◌≤◌, Bool, List, [], ◌∷◌, ◌++◌, bytes_eq, drop, length, nat_le, take}
use Rattle.paseto_der.specs.Element.{element}
use Rattle.paseto_montgomery.specs.Octets.{i2osp, os2ip}
use Rattle.paseto_rsa.specs.Keys.{IsInRange, IsPrivate, IsPublicKey, key_front}

-- ---- private keys

-- the PrivateKeyInfo of an RSAPrivateKey (RFC 5208, section 5)
abbrev pub private_key_info : List ℕ → List ℕ
private_key_info inner = element 0x30 (key_front ++ element 0x04 inner)

-- octets are the RSAPrivateKey of a private key. Those of 2048 bits have more than 256 octets, and far fewer than 65,000
pub record IsRsaPrivateKey (inner : List ℕ) : Type 0 where
  pub long : 256 ≤ length inner
  pub short : length inner < 65000
  pub key : IsPrivate (private_key_info inner)

-- ---- public keys

-- octets are a public key, an RSAPublicKey, which has 270 octets: its modulus has 2048 bits, and its exponent is 65537
pub record IsPublic (key : List ℕ) : Type 0 where
  pub size : length key ≡ 270
  pub n : ℕ
  pub e : ℕ
  pub in_range : IsInRange n e
  pub read : IsPublicKey n e key

-- the RSAPublicKey of a modulus of 2048 bits, and of the exponent 65537
abbrev pub rsa_public_key : ℕ → List ℕ
rsa_public_key n = element 0x30 (element 0x02 (0 ∷ i2osp n 256) ++ element 0x02 (1 ∷ 0 ∷ 1 ∷ []))

-- the modulus in an RSAPublicKey: 256 octets behind the first nine
abbrev pub modulus_in : List ℕ → ℕ
modulus_in key = os2ip (take 256 (drop 9 key))

-- whether octets are a public key: the RSAPublicKey of the modulus in them, which has 2048 bits and is odd
unfoldable pub is_public : List ℕ → Bool
is_public key =
    bytes_eq key (rsa_public_key (modulus_in key)) && (nat_le (2 ^ 2047) (modulus_in key) && modulus_in key % 2 == 1)

-- rsaEncryption, 1.2.840.113549.1.1.1, with parameters NULL (RFC 8017, appendix A.1)
unfoldable pub algorithm : List ℕ
algorithm = element 0x06 (0x2a ∷ 0x86 ∷ 0x48 ∷ 0x86 ∷ 0xf7 ∷ 0x0d ∷ 0x01 ∷ 0x01 ∷ 0x01 ∷ []) ++ element 0x05 []

-- the SubjectPublicKeyInfo of an RSAPublicKey: the algorithm, and the key as a BIT STRING of whole octets
unfoldable pub public_key_info : List ℕ → List ℕ
public_key_info key = element 0x30 (element 0x30 algorithm ++ element 0x03 (0 ∷ key))
