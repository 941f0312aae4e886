use Rattle.paseto_argon2.specs.Permutation.{columns_mixed, permuted}
use Rattle.paseto_argon2.proofs.permutation.permuted.Goals as goal

pub returns : goal.returns
unfolding permuted
returns c v e = c.diagonals_mixed.ensures (columns_mixed v) (c.columns_mixed.ensures v e)
