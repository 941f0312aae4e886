use Rattle.std.proofs.Common.{ℕ, refl}
use Rattle.rusty_paseto_primitives.specs.ChaCha.Block.{add32, xor_rotate}
use Rattle.rusty_paseto_primitives.specs.ChaCha.Lanes.{half_round}
use Rattle.rusty_paseto_primitives.proofs.chacha.vectors.half_mixed.Goals as goal

pub returns : goal.returns
unfolding half_round
returns c p q u v ea eb ec ed =
    let a1 : ℕ → ℕ = λ j. add32 (p j) (q j) in
    let d1 : ℕ → ℕ = λ j. xor_rotate (v j) (a1 j) c.args.r in
    let c1 : ℕ → ℕ = λ j. add32 (u j) (d1 j) in
    let ea1 = c.sum-a1.ensures p q ea eb in
    let ed1 = c.xor_rotate-d1.ensures v a1 ed ea1 in
    let ec1 = c.sum-c1.ensures u d1 ec ed1 in
    let eb1 = c.xor_rotate-b1.ensures q c1 eb ec1 in
    rw (ea1, eb1, ec1, ed1) refl
