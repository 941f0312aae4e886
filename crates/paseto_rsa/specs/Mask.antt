-- MGF1 over SHA-384 (RFC 8017, appendix B.2.1).
use Rattle.std.specs.Prelude.{ℕ, zero, suc, ◌%◌, List, [], ◌∷◌, ◌++◌, take, bit_xor}
use Rattle.sha2.specs.Sha512.{sha384}
use Rattle.paseto_montgomery.specs.Octets.{i2osp}

-- T after n rounds: the digests of the seed with each counter, joined (steps 2 and 3)
unfoldable pub mgf1_blocks : List ℕ → ℕ → List ℕ
mgf1_blocks seed zero = []
mgf1_blocks seed (suc n) = mgf1_blocks seed n ++ sha384 (seed ++ i2osp n 4)

-- a mask of 207 octets, for which T has five digests (step 4)
unfoldable pub mgf1 : List ℕ → List ℕ
mgf1 seed = take 207 (mgf1_blocks seed 5)

-- the exclusive or of two strings of one length
unfoldable pub xor_octets : List ℕ → List ℕ → List ℕ
xor_octets [] ys = []
xor_octets (x ∷ xs) [] = []
xor_octets (x ∷ xs) (y ∷ ys) = bit_xor x y ∷ xor_octets xs ys

-- the leftmost 8 * emLen - emBits bits of the leftmost octet, which is one bit, set to zero
abbrev pub first_bit_cleared : List ℕ → List ℕ
first_bit_cleared [] = []
first_bit_cleared (x ∷ xs) = x % 128 ∷ xs
