use Rattle.std.proofs.Common.{ℕ, List, [], slice_index_or, refl, ap}
use Rattle.paseto_argon2.specs.Block.{registers, row_words, rows_permuted}
use Rattle.paseto_argon2.proofs.block.rows_permuted.Goals as goal

pub returns : goal.returns
unfolding registers rows_permuted
returns c a e =
    let at = λ (i : ℕ). ap (λ (x : List (List (List ℕ))). slice_index_or x i []) e in
    rw (
      c.permuted.ensures (row_words a 0) (at 0),
      c.permuted-2.ensures (row_words a 1) (at 1),
      c.permuted-3.ensures (row_words a 2) (at 2),
      c.permuted-4.ensures (row_words a 3) (at 3),
      c.permuted-5.ensures (row_words a 4) (at 4),
      c.permuted-6.ensures (row_words a 5) (at 5),
      c.permuted-7.ensures (row_words a 6) (at 6),
      c.permuted-8.ensures (row_words a 7) (at 7),
    ) refl
