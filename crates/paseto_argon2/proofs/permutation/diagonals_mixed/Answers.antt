use Rattle.std.proofs.Common.{ℕ, List, [], slice_index, slice_index_or, refl, ap}
use Rattle.rusty_paseto_primitives.proofs.Blake2Rows.{one_of}
use Rattle.paseto_argon2.specs.Permutation.{diagonals_mixed}
use Rattle.paseto_argon2.proofs.permutation.diagonals_mixed.Goals as goal

pub returns : goal.returns
unfolding diagonals_mixed
returns c v e =
    let w : ℕ → ℕ → ℕ → ℕ = λ i j. one_of (slice_index v i) (slice_index v j) in
    let at = λ (k : ℕ). ap (λ (s : List (List ℕ)). slice_index_or s k []) e in
    let b0 = c.across.ensures _ _ _ _ (at 2) (at 3) in
    let d0 = c.across-2.ensures _ _ _ _ (at 7) (at 6) in
    let even = c.gb.ensures (w 0 1) (w 5 6) (w 10 11) (w 15 12) (at 0) b0 (at 5) d0 in
    let b1 = c.across-3.ensures _ _ _ _ (at 3) (at 2) in
    let d1 = c.across-4.ensures _ _ _ _ (at 6) (at 7) in
    let odd = c.gb-2.ensures (w 2 3) (w 7 4) (w 8 9) (w 13 14) (at 1) b1 (at 4) d1 in
    let even_b = ap (λ (t : List ℕ × List ℕ × List ℕ × List ℕ). t.1) even in
    let odd_b = ap (λ (t : List ℕ × List ℕ × List ℕ × List ℕ). t.1) odd in
    let even_d = ap (λ (t : List ℕ × List ℕ × List ℕ × List ℕ). t.3) even in
    let odd_d = ap (λ (t : List ℕ × List ℕ × List ℕ × List ℕ). t.3) odd in
    rw (
      c.across-5.ensures _ _ _ _ odd_b even_b,
      c.across-6.ensures _ _ _ _ even_b odd_b,
      c.across-7.ensures _ _ _ _ even_d odd_d,
      c.across-8.ensures _ _ _ _ odd_d even_d,
      even,
      odd,
    ) refl
