-- The header of version 2's local tokens, and the nonce of a published token, so that a wrong text or
-- length in the definitions does not check.
use Rattle.std.proofs.Common.{◌≡◌, [], ◌∷◌, codes, refl, replicate}
use Rattle.rusty_paseto_parts.specs.Header.{header_text}
use Rattle.rusty_paseto_primitives.specs.Blake2.Block.{column_step, compress, diagonal_step, folded, mix, round, rounds, words, work_vector}
use Rattle.rusty_paseto_primitives.specs.Blake2.Keyed.{blake2b, final_hash, hash_after, hash_bytes}
use Rattle.rusty_paseto_core.specs.Local.Boxed.{header, token_nonce}

pub header_is : header ≡ codes "v2.local."
unfolding header_text
header_is = refl

-- PASETO test vector 2-E-1
pub nonce_of_2-E-1 : token_nonce (replicate 24 0)
    (codes "{\"data\":\"this is a signed message\",\"exp\":\"2019-01-01T00:00:00+00:00\"}") ≡
    0xF7 ∷ 0xB4 ∷ 0xD3 ∷ 0x3A ∷ 0xF8 ∷ 0x30 ∷ 0x23 ∷ 0x13 ∷ 0x46 ∷ 0xBD ∷ 0x5F ∷ 0x34 ∷ 0x5C ∷
    0xA8 ∷ 0x86 ∷ 0x66 ∷ 0x0F ∷ 0xE4 ∷ 0x0F ∷ 0x7B ∷ 0x6C ∷ 0x5C ∷ 0xCF ∷ 0xFE ∷ []
unfolding mix column_step diagonal_step round rounds words work_vector folded compress hash_after final_hash hash_bytes blake2b
nonce_of_2-E-1 = refl
