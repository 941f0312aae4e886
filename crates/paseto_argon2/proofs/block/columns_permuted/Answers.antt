use Rattle.std.proofs.Common.{refl}
use Rattle.paseto_argon2.specs.Block.{registers, row_words, rows_permuted, transposed}
use Rattle.paseto_argon2.proofs.block.columns_permuted.Goals as goal

pub returns : goal.returns
unfolding registers rows_permuted
returns c a e =
    rw (
      c.permuted.ensures (row_words (transposed a) 0) (c.column_of.ensures a e),
      c.permuted-2.ensures (row_words (transposed a) 1) (c.column_of-2.ensures a e),
      c.permuted-3.ensures (row_words (transposed a) 2) (c.column_of-3.ensures a e),
      c.permuted-4.ensures (row_words (transposed a) 3) (c.column_of-4.ensures a e),
      c.permuted-5.ensures (row_words (transposed a) 4) (c.column_of-5.ensures a e),
      c.permuted-6.ensures (row_words (transposed a) 5) (c.column_of-6.ensures a e),
      c.permuted-7.ensures (row_words (transposed a) 6) (c.column_of-7.ensures a e),
      c.permuted-8.ensures (row_words (transposed a) 7) (c.column_of-8.ensures a e),
    ) refl
