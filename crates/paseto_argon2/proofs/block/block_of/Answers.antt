use Rattle.std.proofs.Common.{refl}
use Rattle.paseto_argon2.specs.Block.{block_of, registers}
use Rattle.paseto_argon2.proofs.block.block_of.Goals as goal

pub returns : goal.returns
unfolding registers block_of
returns c =
    rw (
      c.row_at.ensures,
      c.row_at-2.ensures,
      c.row_at-3.ensures,
      c.row_at-4.ensures,
      c.row_at-5.ensures,
      c.row_at-6.ensures,
      c.row_at-7.ensures,
      c.row_at-8.ensures,
    ) refl
