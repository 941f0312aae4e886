-- First bytes of published points, so that a wrong one in the definition does not check.
use Rattle.std.proofs.Common.{◌≡◌, [], ◌∷◌, true, false, refl}
use Rattle.rusty_paseto_parts.specs.PublicKey.{is_compressed}

-- the PASETO test vectors, version 3, vector 3-S-1: a public key begins so
pub published_key : is_compressed (0x02 ∷ 0xFB ∷ 0xCB ∷ 0x7C ∷ []) ≡ true
published_key = refl

-- SEC 1, section 2.3.3: the other sign
pub other_sign : is_compressed (0x03 ∷ 0xFB ∷ 0xCB ∷ 0x7C ∷ []) ≡ true
other_sign = refl

-- a point that is not compressed begins with 4, and the one at infinity is 0
pub uncompressed : is_compressed (0x04 ∷ 0xFB ∷ 0xCB ∷ 0x7C ∷ []) ≡ false
uncompressed = refl

pub infinity : is_compressed (0x00 ∷ []) ≡ false
infinity = refl

-- no byte
pub nothing : is_compressed [] ≡ false
nothing = refl
