use Rattle.std.proofs.Common.{ℕ, ◌+◌, List, [], slice_index, slice_index_or, refl, ap}
use Rattle.paseto_argon2.specs.Block.{registers, xored}
use Rattle.paseto_argon2.proofs.block.xored.Goals as goal

pub returns : goal.returns
unfolding registers xored
returns c a b ea eb =
    let first = λ (i : ℕ). ap (λ (x : List (List (List ℕ))). slice_index_or x i []) ea in
    let second = λ (i : ℕ). ap (λ (x : List (List (List ℕ))). slice_index_or x i []) eb in
    rw (
      c.row_xored.ensures (λ k. slice_index a (k)) (λ k. slice_index b (k)) (first 0) (second 0),
      c.row_xored-2.ensures (λ k. slice_index a (16 + k)) (λ k. slice_index b (16 + k)) (first 1) (second 1),
      c.row_xored-3.ensures (λ k. slice_index a (32 + k)) (λ k. slice_index b (32 + k)) (first 2) (second 2),
      c.row_xored-4.ensures (λ k. slice_index a (48 + k)) (λ k. slice_index b (48 + k)) (first 3) (second 3),
      c.row_xored-5.ensures (λ k. slice_index a (64 + k)) (λ k. slice_index b (64 + k)) (first 4) (second 4),
      c.row_xored-6.ensures (λ k. slice_index a (80 + k)) (λ k. slice_index b (80 + k)) (first 5) (second 5),
      c.row_xored-7.ensures (λ k. slice_index a (96 + k)) (λ k. slice_index b (96 + k)) (first 6) (second 6),
      c.row_xored-8.ensures (λ k. slice_index a (112 + k)) (λ k. slice_index b (112 + k)) (first 7) (second 7),
    ) refl
