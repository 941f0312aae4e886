use Rattle.std.proofs.Common.{refl}
use Rattle.paseto_argon2.specs.Block.{registers}
use Rattle.paseto_argon2.proofs.block.transposed.Goals as goal

pub returns : goal.returns
unfolding registers
returns c a e =
    rw (
      c.column_of.ensures a e,
      c.column_of-2.ensures a e,
      c.column_of-3.ensures a e,
      c.column_of-4.ensures a e,
      c.column_of-5.ensures a e,
      c.column_of-6.ensures a e,
      c.column_of-7.ensures a e,
      c.column_of-8.ensures a e,
    ) refl
