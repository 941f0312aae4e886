-- RSA keys of 2048 bits (RFC 8017, appendix A.1; RFC 5208, section 5).
use Rattle.std.specs.Prelude.{◌≡◌, ℕ, ◌-◌, ◌*◌, ◌%◌, ◌^◌, ◌<◌, ◌≤◌, List, [], ◌∷◌, ◌++◌, length, take}
use Rattle.paseto_der.specs.Element.{behind_of, contents_of, element}
use Rattle.paseto_rsa.specs.Integers.{IsSequence}

-- RSAPublicKey: the modulus n and the public exponent e (A.1.1)
abbrev pub IsPublicKey : ℕ → ℕ → List ℕ → Type 0
IsPublicKey n e key = IsSequence (n ∷ e ∷ []) key

-- n has 2048 bits and is odd; e is 65537, as version 1 asks (PASETO specification, "Version 1")
pub record IsInRange (n e : ℕ) : Type 0 where
  pub full : 2 ^ 2047 ≤ n
  pub below : n < 2 ^ 2048
  pub odd : n % 2 ≡ 1
  pub exponent : e ≡ 65537

-- the modulus, both exponents, both factors of the modulus, their exponents and their coefficient (A.1.2)
pub record PrivateNumbers : Type 0 where
  pub n : ℕ
  pub e : ℕ
  pub d : ℕ
  pub p : ℕ
  pub q : ℕ
  pub dp : ℕ
  pub dq : ℕ
  pub qinv : ℕ

-- what stands before the key in a PrivateKeyInfo: the version 0, and the algorithm, which is rsaEncryption,
-- 1.2.840.113549.1.1.1, with parameters NULL (RFC 5208, section 5; RFC 8017, appendix A.1)
unfoldable pub key_front : List ℕ
key_front =
    element 0x02 (0 ∷ [])
    ++ element 0x30 (element 0x06 (0x2a ∷ 0x86 ∷ 0x48 ∷ 0x86 ∷ 0xf7 ∷ 0x0d ∷ 0x01 ∷ 0x01 ∷ 0x01 ∷ []) ++ element 0x05 [])

-- PrivateKeyInfo, with no attributes, of an RSAPrivateKey of these numbers, whose version is 0 for two factors
-- (RFC 5208, section 5; RFC 8017, appendix A.1.2)
pub record IsPrivateKey (k : PrivateNumbers) (key : List ℕ) : Type 0 where
  pub inner : List ℕ
  pub written : key ≡ element 0x30 (key_front ++ element 0x04 inner)
  pub integers : IsSequence (0 ∷ k.n ∷ k.e ∷ k.d ∷ k.p ∷ k.q ∷ k.dp ∷ k.dq ∷ k.qinv ∷ []) inner

-- an odd number of 1024 bits
pub record IsHalf (p : ℕ) : Type 0 where
  pub full : 2 ^ 1023 ≤ p
  pub below : p < 2 ^ 1024
  pub odd : p % 2 ≡ 1

-- the public key is in range, n is the product of the factors, and each of these has half as many bits (3.2, where u is 2);
-- the other numbers are as long as what they belong to. That the exponents and the coefficient are of this key is not asked:
-- where they are not, what they sign is not valid
pub record IsPrivateInRange (k : PrivateNumbers) : Type 0 where
  pub public : IsInRange k.n k.e
  pub d_below : k.d < 2 ^ 2048
  pub p_half : IsHalf k.p
  pub q_half : IsHalf k.q
  pub product : k.p * k.q ≡ k.n
  pub dp_below : k.dp < 2 ^ 1024
  pub dq_below : k.dq < 2 ^ 1024
  pub qinv_below : k.qinv < 2 ^ 1024

-- octets are a private key
pub record IsPrivate (key : List ℕ) : Type 0 where
  pub numbers : PrivateNumbers
  pub in_range : IsPrivateInRange numbers
  pub read : IsPrivateKey numbers key

-- the two elements that octets begin with
abbrev pub first_two : List ℕ → List ℕ
first_two octets = take (length octets - length (behind_of (behind_of octets))) octets

-- the RSAPrivateKey of a private key, which stands behind the version and the algorithm
unfoldable pub rsa_private : List ℕ → List ℕ
rsa_private private = contents_of (behind_of (behind_of (contents_of private)))

-- the public key of a private key: the RSAPublicKey whose INTEGERs are the second and the third of the RSAPrivateKey
unfoldable pub rsa_public : List ℕ → List ℕ
rsa_public private = element 0x30 (first_two (behind_of (contents_of (rsa_private private))))
