use Rattle.std.proofs.Common.{ℕ, List, [], slice_index, slice_index_or, refl, ap}
use Rattle.rusty_paseto_primitives.specs.Blake2.Block.{diagonal_step}
use Rattle.rusty_paseto_primitives.proofs.Blake2Lanes.{mixed_of_halves}
use Rattle.rusty_paseto_primitives.proofs.Blake2Rows.{one_of}
use Rattle.rusty_paseto_primitives.proofs.blake2.rows.diagonal_step.Goals as goal

pub returns : goal.returns
unfolding diagonal_step
returns c state words ev em =
    let w : ℕ → ℕ → ℕ → ℕ = λ i j. one_of (slice_index state i) (slice_index state j) in
    let x : ℕ → ℕ → ℕ → ℕ = λ i j. one_of (slice_index words (slice_index c.args.s i)) (slice_index words (slice_index c.args.s j)) in
    let at = λ (k : ℕ). ap (λ (v : List (List ℕ)). slice_index_or v k []) ev in
    let a0 = c.exchanged-a0.ensures _ _ (at 1) in
    let c1 = c.exchanged-c1.ensures _ _ (at 4) in
    let d0 = c.exchanged-d0.ensures _ _ (at 6) in
    let d1 = c.exchanged-d1.ensures _ _ (at 7) in
    let even = mixed_of_halves _ _ (w 3 1) (w 4 6) (w 9 11) (w 14 12) (x 14 10) (x 15 11)
    (c.half_mix.ensures (w 3 1) (w 4 6) (w 9 11) (w 14 12) (x 14 10) a0 (at 2) (at 5) d0 (c.named.ensures words em))
    (λ o p q t ea eb ec ed. c.half_mix-3.ensures o p q t (x 15 11) ea eb ec ed (c.named-3.ensures words em)) in
    let odd = mixed_of_halves _ _ (w 0 2) (w 5 7) (w 10 8) (w 15 13) (x 8 12) (x 9 13)
    (c.half_mix-2.ensures (w 0 2) (w 5 7) (w 10 8) (w 15 13) (x 8 12) (at 0) (at 3) c1 d1 (c.named-2.ensures words em))
    (λ o p q t ea eb ec ed. c.half_mix-4.ensures o p q t (x 9 13) ea eb ec ed (c.named-4.ensures words em)) in
    rw (
      c.exchanged.ensures _ _ (ap (λ (t : List ℕ × List ℕ × List ℕ × List ℕ). t.0) even),
      c.exchanged-2.ensures _ _ (ap (λ (t : List ℕ × List ℕ × List ℕ × List ℕ). t.2) odd),
      c.exchanged-3.ensures _ _ (ap (λ (t : List ℕ × List ℕ × List ℕ × List ℕ). t.3) even),
      c.exchanged-4.ensures _ _ (ap (λ (t : List ℕ × List ℕ × List ℕ × List ℕ). t.3) odd),
      even,
      odd,
    ) refl
