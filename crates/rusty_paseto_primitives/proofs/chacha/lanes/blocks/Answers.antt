use Rattle.std.proofs.Common.{◌≡◌, ℕ, List, [], slice_index, slice_index_or, refl, ap, add-one, arith}
use Rattle.rusty_paseto_primitives.specs.ChaCha.Block.{block_word, column_round, double_rounds}
use Rattle.rusty_paseto_primitives.specs.ChaCha.Lanes.{lanes}
use Rattle.rusty_paseto_primitives.proofs.chacha.lanes.blocks.Goals as goal

pub rounds-init : goal.rounds-init
unfolding double_rounds
rounds-init c s e = e

pub rounds-preserved : goal.rounds-preserved
unfolding double_rounds
rounds-preserved c s e =
    let before : ℕ → List ℕ = λ j. double_rounds c.rounds._round (s j) in
    rw add-one
    (c.diagonal_round-x.ensures (λ j. column_round (before j)) (c.column_round.ensures before (c.rounds.invariant s e)))

pub returns : goal.returns
unfolding block_word
returns c s e =
    let all : c.rounds._round ≡ 10 = omega arith in
    let done : c.rounds.x ≡ lanes (λ j. double_rounds 10 (s j)) = rw all at c.rounds.invariant s e in
    let x : ℕ → ℕ → ℕ = λ k j. slice_index (double_rounds 10 (s j)) k in
    let w : ℕ → ℕ → ℕ = λ k j. slice_index (s j) k in
    let at = λ (k : ℕ). ap (λ (v : List (List ℕ)). slice_index_or v k []) done in
    let from = λ (k : ℕ). ap (λ (v : List (List ℕ)). slice_index_or v k []) e in
    rw (
      c.sum.ensures (x 0) (w 0) (at 0) (from 0),
      c.sum-2.ensures (x 1) (w 1) (at 1) (from 1),
      c.sum-3.ensures (x 2) (w 2) (at 2) (from 2),
      c.sum-4.ensures (x 3) (w 3) (at 3) (from 3),
      c.sum-5.ensures (x 4) (w 4) (at 4) (from 4),
      c.sum-6.ensures (x 5) (w 5) (at 5) (from 5),
      c.sum-7.ensures (x 6) (w 6) (at 6) (from 6),
      c.sum-8.ensures (x 7) (w 7) (at 7) (from 7),
      c.sum-9.ensures (x 8) (w 8) (at 8) (from 8),
      c.sum-10.ensures (x 9) (w 9) (at 9) (from 9),
      c.sum-11.ensures (x 10) (w 10) (at 10) (from 10),
      c.sum-12.ensures (x 11) (w 11) (at 11) (from 11),
      c.sum-13.ensures (x 12) (w 12) (at 12) (from 12),
      c.sum-14.ensures (x 13) (w 13) (at 13) (from 13),
      c.sum-15.ensures (x 14) (w 14) (at 14) (from 14),
      c.sum-16.ensures (x 15) (w 15) (at 15) (from 15),
    ) refl
