use Rattle.std.proofs.Common.{ℕ, List, [], slice_index, slice_index_or, refl, ap}
use Rattle.rusty_paseto_primitives.proofs.Blake2Rows.{one_of}
use Rattle.paseto_argon2.specs.Permutation.{columns_mixed}
use Rattle.paseto_argon2.proofs.permutation.columns_mixed.Goals as goal

pub returns : goal.returns
unfolding columns_mixed
returns c v e =
    let w : ℕ → ℕ → ℕ → ℕ = λ i j. one_of (slice_index v i) (slice_index v j) in
    let at = λ (k : ℕ). ap (λ (s : List (List ℕ)). slice_index_or s k []) e in
    rw (
      c.gb.ensures (w 0 1) (w 4 5) (w 8 9) (w 12 13) (at 0) (at 2) (at 4) (at 6),
      c.gb-2.ensures (w 2 3) (w 6 7) (w 10 11) (w 14 15) (at 1) (at 3) (at 5) (at 7),
    ) refl
