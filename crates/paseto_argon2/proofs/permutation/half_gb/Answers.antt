use Rattle.std.proofs.Common.{ℕ, bit_xor, refl}
use Rattle.std.specs.Int.{w64, rotate_right}
use Rattle.paseto_argon2.specs.Permutation.{added, half_gb}
use Rattle.paseto_argon2.proofs.permutation.half_gb.Goals as goal

pub returns : goal.returns
unfolding half_gb
returns c o p q t ea eb ec ed =
    let a1 : ℕ → ℕ = λ j. added (o j) (p j) in
    let d1 : ℕ → ℕ = λ j. rotate_right w64 (bit_xor (t j) (a1 j)) c.args.r in
    let c1 : ℕ → ℕ = λ j. added (q j) (d1 j) in
    let ea1 = c.added-a1.ensures o p ea eb in
    let ed1 = c.xor_rotated-d1.ensures t a1 ed ea1 in
    let ec1 = c.added-c1.ensures q d1 ec ed1 in
    let eb1 = c.xor_rotated-b1.ensures p c1 eb ec1 in
    rw (ea1, eb1, ec1, ed1) refl
