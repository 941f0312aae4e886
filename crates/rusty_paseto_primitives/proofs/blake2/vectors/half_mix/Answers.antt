use Rattle.std.proofs.Common.{ℕ, ◌+◌, ◌%◌, ◌^◌, bit_xor, refl}
use Rattle.std.specs.Int.{w64, rotate_right}
use Rattle.rusty_paseto_primitives.specs.Blake2.Block.{half_mix}
use Rattle.rusty_paseto_primitives.proofs.blake2.vectors.half_mix.Goals as goal

pub returns : goal.returns
unfolding half_mix
returns c o p q t m ea eb ec ed ex =
    let a1 : ℕ → ℕ = λ j. (o j + p j + m j) % 2 ^ 64 in
    let d1 : ℕ → ℕ = λ j. rotate_right w64 (bit_xor (t j) (a1 j)) c.args.r in
    let c1 : ℕ → ℕ = λ j. (q j + d1 j) % 2 ^ 64 in
    let ea1 = c.sum_of_three-a1.ensures o p m ea eb ex in
    let ed1 = c.xor_rotated-d1.ensures t a1 ed ea1 in
    let ec1 = c.sum-c1.ensures q d1 ec ed1 in
    let eb1 = c.xor_rotated-b1.ensures p c1 eb ec1 in
    rw (ea1, eb1, ec1, ed1) refl
