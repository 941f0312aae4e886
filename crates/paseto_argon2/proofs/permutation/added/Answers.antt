use Rattle.std.proofs.Common.{ℕ, ◌*◌, ◌%◌, ◌^◌, refl}
use Rattle.paseto_argon2.specs.Permutation.{added}
use Rattle.paseto_argon2.proofs.Registers.{sum_with_twice}
use Rattle.paseto_argon2.proofs.permutation.added.Goals as goal

pub returns : goal.returns
unfolding added
returns c f g ea eb =
    let p : ℕ → ℕ = λ j. (f j % 2 ^ 32) * (g j % 2 ^ 32) in
    rw (c.truncated.ensures f ea, c.truncated-2.ensures g eb, ea, eb, sum_with_twice (f 0) (g 0) (p 0), sum_with_twice (f 1) (g 1) (p 1)) refl
