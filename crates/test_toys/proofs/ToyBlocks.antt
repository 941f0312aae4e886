-- The blocks of a toy signature.
use Rattle.std.proofs.Common.{◌≡◌, ℕ, ◌+◌, ◌*◌, ◌≤◌, List, ◌∷◌, ◌++◌, length, take, refl, arith, add-one}
use Rattle.std.proofs.lemmas.Slice.{take-put_mid}
use Rattle.rusty_paseto_primitives.specs.Blake2.Keyed.{blake2b}
use Rattle.rusty_paseto_primitives.proofs.Blake2Lengths.{length-blake2b}
use Rattle.test_toys.specs.ToySignature.{toy_blocks}
use borrow.Rule.Slice.PartMut.{put_mid}

-- one more block
pub toy_blocks_more : (out key message block : List ℕ) (i k : ℕ) → take (64 * i) out ≡ toy_blocks key message i → 64 * i ≤ length out
    → block ≡ blake2b key 64 (i ∷ message) → take (64 * (i + 1)) (put_mid (64 * i) k out block) ≡ toy_blocks key message (i + 1)
unfolding toy_blocks
toy_blocks_more out key message block i k held fits is =
    let len : length block ≡ 64 = rw is (length-blake2b key 64 (i ∷ message) (omega arith)) in
    let front : take (64 * (i + 1)) (put_mid (64 * i) k out block) ≡ take (64 * i) out ++ block = take-put_mid (64 * i) k out block (64 * (i + 1)) (omega arith) fits in
    rw (front, held, is, add-one) refl
