-- EMSA-PSS (RFC 8017, section 9.1) with SHA-384, MGF1 over SHA-384 and a salt of 48 octets, for a modulus of 2048 bits:
-- hLen and sLen are 48, emLen is 256, and emBits is 2047.
use Rattle.std.specs.Prelude.{◌≡◌, ℕ, ◌<◌, List, [], ◌∷◌, ◌++◌, take, drop, replicate, slice_index}
use Rattle.sha2.specs.Sha512.{sha384}
use Rattle.paseto_rsa.specs.Mask.{first_bit_cleared, mgf1, xor_octets}

-- H: the hash of M', which is eight zeros, the hash of the message and the salt (9.1.1, steps 5 and 6; 9.1.2, steps 12
-- and 13)
abbrev pub salted_hash : List ℕ → List ℕ → List ℕ
salted_hash hash salt = sha384 ((replicate 8 0 ++ hash) ++ salt)

-- maskedDB: the leftmost emLen - hLen - 1 octets (9.1.2, step 5)
abbrev pub masked_block : List ℕ → List ℕ
masked_block em = take 207 em

-- H: the next hLen octets (9.1.2, step 5)
abbrev pub hash_octets : List ℕ → List ℕ
hash_octets em = take 48 (drop 207 em)

-- DB or maskedDB of the other one: the exclusive or with the mask of H, and the first bit set to zero (9.1.1, steps 9 to
-- 11; 9.1.2, steps 7 to 9)
unfoldable pub masked : List ℕ → List ℕ → List ℕ
masked hash block = first_bit_cleared (xor_octets block (mgf1 hash))

-- DB (9.1.2, steps 7 to 9)
abbrev pub data_block : List ℕ → List ℕ
data_block em = masked (hash_octets em) (masked_block em)

-- PS and the octet behind it: emLen - hLen - sLen - 2 zeros, and 1 (9.1.1, step 8; 9.1.2, step 10)
abbrev pub padding : List ℕ
padding = replicate 158 0 ++ 1 ∷ []

-- EMSA-PSS-VERIFY of the hash of a message and an encoded message of 256 octets says "consistent" (9.1.2; steps 1 to 3
-- have nothing to refuse)
pub record IsConsistent (hash em : List ℕ) : Type 0 where
  -- step 4
  pub trailer : slice_index em 255 ≡ 0xbc
  -- step 6
  pub first_bit : slice_index em 0 < 128
  -- step 10
  pub padded : take 159 (data_block em) ≡ padding
  -- steps 11 to 14: the salt is the last sLen octets of DB
  pub hashed : salted_hash hash (drop 159 (data_block em)) ≡ hash_octets em

-- EMSA-PSS-ENCODE of the hash of a message, with a salt (9.1.1, steps 5 to 12)
unfoldable pub emsa_pss_encode : List ℕ → List ℕ → List ℕ
emsa_pss_encode hash salt =
    let h = salted_hash hash salt in
    masked h (padding ++ salt) ++ h ++ 0xbc ∷ []
