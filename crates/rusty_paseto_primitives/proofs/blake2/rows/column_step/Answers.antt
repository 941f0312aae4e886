use Rattle.std.proofs.Common.{ℕ, List, [], slice_index, slice_index_or, refl, ap}
use Rattle.rusty_paseto_primitives.specs.Blake2.Block.{column_step}
use Rattle.rusty_paseto_primitives.proofs.Blake2Lanes.{mixed_of_halves}
use Rattle.rusty_paseto_primitives.proofs.Blake2Rows.{one_of}
use Rattle.rusty_paseto_primitives.proofs.blake2.rows.column_step.Goals as goal

pub returns : goal.returns
unfolding column_step
returns c state words ev em =
    let w : ℕ → ℕ → ℕ → ℕ = λ i j. one_of (slice_index state i) (slice_index state j) in
    let x : ℕ → ℕ → ℕ → ℕ = λ i j. one_of (slice_index words (slice_index c.args.s i)) (slice_index words (slice_index c.args.s j)) in
    let at = λ (k : ℕ). ap (λ (v : List (List ℕ)). slice_index_or v k []) ev in
    rw (
      mixed_of_halves _ _ (w 0 2) (w 4 6) (w 8 10) (w 12 14) (x 0 4) (x 1 5)
          (c.half_mix.ensures (w 0 2) (w 4 6) (w 8 10) (w 12 14) (x 0 4) (at 0) (at 2) (at 4) (at 6) (c.named.ensures words em))
          (λ o p q t ea eb ec ed. c.half_mix-3.ensures o p q t (x 1 5) ea eb ec ed (c.named-3.ensures words em)),
      mixed_of_halves _ _ (w 1 3) (w 5 7) (w 9 11) (w 13 15) (x 2 6) (x 3 7)
          (c.half_mix-2.ensures (w 1 3) (w 5 7) (w 9 11) (w 13 15) (x 2 6) (at 1) (at 3) (at 5) (at 7) (c.named-2.ensures words em))
          (λ o p q t ea eb ec ed. c.half_mix-4.ensures o p q t (x 3 7) ea eb ec ed (c.named-4.ensures words em)),
    ) refl
