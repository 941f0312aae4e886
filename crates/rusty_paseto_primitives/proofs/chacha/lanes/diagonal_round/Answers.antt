use Rattle.std.proofs.Common.{ℕ, List, [], slice_index, slice_index_or, refl, ap}
use Rattle.rusty_paseto_primitives.specs.ChaCha.Block.{diagonal_round}
use Rattle.rusty_paseto_primitives.proofs.QuarterRounds.{mixed_of_halves}
use Rattle.rusty_paseto_primitives.proofs.chacha.lanes.diagonal_round.Goals as goal

pub returns : goal.returns
unfolding diagonal_round
returns c s e =
    let w : ℕ → ℕ → ℕ = λ k j. slice_index (s j) k in
    let at = λ (k : ℕ). ap (λ (x : List (List ℕ)). slice_index_or x k []) e in
    rw (
      mixed_of_halves _ _ (w 0) (w 5) (w 10) (w 15)
          (c.half_mixed.ensures (w 0) (w 5) (w 10) (w 15) (at 0) (at 5) (at 10) (at 15)) c.half_mixed-5.ensures,
      mixed_of_halves _ _ (w 1) (w 6) (w 11) (w 12)
          (c.half_mixed-2.ensures (w 1) (w 6) (w 11) (w 12) (at 1) (at 6) (at 11) (at 12)) c.half_mixed-6.ensures,
      mixed_of_halves _ _ (w 2) (w 7) (w 8) (w 13)
          (c.half_mixed-3.ensures (w 2) (w 7) (w 8) (w 13) (at 2) (at 7) (at 8) (at 13)) c.half_mixed-7.ensures,
      mixed_of_halves _ _ (w 3) (w 4) (w 9) (w 14)
          (c.half_mixed-4.ensures (w 3) (w 4) (w 9) (w 14) (at 3) (at 4) (at 9) (at 14)) c.half_mixed-8.ensures,
    ) refl
