use Rattle.std.proofs.Common.{ℕ, List, [], slice_index, slice_index_or, refl, ap}
use Rattle.rusty_paseto_primitives.specs.Blake2.Block.{column_step}
use Rattle.rusty_paseto_primitives.proofs.Blake2Lanes.{mixed_of_halves, words_named}
use Rattle.rusty_paseto_primitives.proofs.blake2.lanes.column_step.Goals as goal

pub returns : goal.returns
unfolding column_step
returns c states messages ev em =
    let w : ℕ → ℕ → ℕ = λ k j. slice_index (states j) k in
    let at = λ (k : ℕ). ap (λ (v : List (List ℕ)). slice_index_or v k []) ev in
    let x : ℕ → ℕ → ℕ = λ i j. slice_index (messages j) (slice_index c.args.s i) in
    let named = λ (i : ℕ). words_named messages c.args.m.now c.args.s i em c.requires in
    rw (
      mixed_of_halves _ _ (w 0) (w 4) (w 8) (w 12) (x 0) (x 1)
          (c.half_mix.ensures (w 0) (w 4) (w 8) (w 12) (x 0) (at 0) (at 4) (at 8) (at 12) (named 0))
          (λ o p q t ea eb ec ed. c.half_mix-5.ensures o p q t (x 1) ea eb ec ed (named 1)),
      mixed_of_halves _ _ (w 1) (w 5) (w 9) (w 13) (x 2) (x 3)
          (c.half_mix-2.ensures (w 1) (w 5) (w 9) (w 13) (x 2) (at 1) (at 5) (at 9) (at 13) (named 2))
          (λ o p q t ea eb ec ed. c.half_mix-6.ensures o p q t (x 3) ea eb ec ed (named 3)),
      mixed_of_halves _ _ (w 2) (w 6) (w 10) (w 14) (x 4) (x 5)
          (c.half_mix-3.ensures (w 2) (w 6) (w 10) (w 14) (x 4) (at 2) (at 6) (at 10) (at 14) (named 4))
          (λ o p q t ea eb ec ed. c.half_mix-7.ensures o p q t (x 5) ea eb ec ed (named 5)),
      mixed_of_halves _ _ (w 3) (w 7) (w 11) (w 15) (x 6) (x 7)
          (c.half_mix-4.ensures (w 3) (w 7) (w 11) (w 15) (x 6) (at 3) (at 7) (at 11) (at 15) (named 6))
          (λ o p q t ea eb ec ed. c.half_mix-8.ensures o p q t (x 7) ea eb ec ed (named 7)),
    ) refl
