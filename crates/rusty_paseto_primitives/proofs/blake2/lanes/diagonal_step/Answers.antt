use Rattle.std.proofs.Common.{ℕ, List, [], slice_index, slice_index_or, refl, ap}
use Rattle.rusty_paseto_primitives.specs.Blake2.Block.{diagonal_step}
use Rattle.rusty_paseto_primitives.proofs.Blake2Lanes.{mixed_of_halves, words_named}
use Rattle.rusty_paseto_primitives.proofs.blake2.lanes.diagonal_step.Goals as goal

pub returns : goal.returns
unfolding diagonal_step
returns c states messages ev em =
    let w : ℕ → ℕ → ℕ = λ k j. slice_index (states j) k in
    let at = λ (k : ℕ). ap (λ (v : List (List ℕ)). slice_index_or v k []) ev in
    let x : ℕ → ℕ → ℕ = λ i j. slice_index (messages j) (slice_index c.args.s i) in
    let named = λ (i : ℕ). words_named messages c.args.m.now c.args.s i em c.requires in
    rw (
      mixed_of_halves _ _ (w 0) (w 5) (w 10) (w 15) (x 8) (x 9)
          (c.half_mix.ensures (w 0) (w 5) (w 10) (w 15) (x 8) (at 0) (at 5) (at 10) (at 15) (named 8))
          (λ o p q t ea eb ec ed. c.half_mix-5.ensures o p q t (x 9) ea eb ec ed (named 9)),
      mixed_of_halves _ _ (w 1) (w 6) (w 11) (w 12) (x 10) (x 11)
          (c.half_mix-2.ensures (w 1) (w 6) (w 11) (w 12) (x 10) (at 1) (at 6) (at 11) (at 12) (named 10))
          (λ o p q t ea eb ec ed. c.half_mix-6.ensures o p q t (x 11) ea eb ec ed (named 11)),
      mixed_of_halves _ _ (w 2) (w 7) (w 8) (w 13) (x 12) (x 13)
          (c.half_mix-3.ensures (w 2) (w 7) (w 8) (w 13) (x 12) (at 2) (at 7) (at 8) (at 13) (named 12))
          (λ o p q t ea eb ec ed. c.half_mix-7.ensures o p q t (x 13) ea eb ec ed (named 13)),
      mixed_of_halves _ _ (w 3) (w 4) (w 9) (w 14) (x 14) (x 15)
          (c.half_mix-4.ensures (w 3) (w 4) (w 9) (w 14) (x 14) (at 3) (at 4) (at 9) (at 14) (named 14))
          (λ o p q t ea eb ec ed. c.half_mix-8.ensures o p q t (x 15) ea eb ec ed (named 15)),
    ) refl
