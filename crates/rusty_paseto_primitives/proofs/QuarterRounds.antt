-- The quarter round in lanes.
use Rattle.std.proofs.Common.{◌≡◌, ℕ, suc, List, refl, ap}
use Rattle.rusty_paseto_primitives.specs.ChaCha.Block.{diagonal_round, double_rounds, quarter_round}
use Rattle.rusty_paseto_primitives.specs.ChaCha.Lanes.{four, half_mixed_lanes, half_round, mixed_lanes}
use Rattle.rusty_paseto_primitives.specs.Square.{state_words}

-- the second half after the first is the whole
pub mixed_of_halves : (h g : List ℕ × List ℕ × List ℕ × List ℕ) (a b c d : ℕ → ℕ) → h ≡ half_mixed_lanes a b c d 16 12
    → ((p q u v : ℕ → ℕ) → h.0 ≡ four p → h.1 ≡ four q → h.2 ≡ four u → h.3 ≡ four v → g ≡ half_mixed_lanes p q u v 8 7)
    → g ≡ mixed_lanes a b c d
unfolding half_round quarter_round
mixed_of_halves h g a b c d first second =
    let half : ℕ → ℕ × ℕ × ℕ × ℕ = λ j. half_round (a j) (b j) (c j) (d j) 16 12 in
    second (λ j. (half j).0) (λ j. (half j).1) (λ j. (half j).2) (λ j. (half j).3)
    (ap (λ (t : List ℕ × List ℕ × List ℕ × List ℕ). t.0) first) (ap (λ (t : List ℕ × List ℕ × List ℕ × List ℕ). t.1) first)
    (ap (λ (t : List ℕ × List ℕ × List ℕ × List ℕ). t.2) first) (ap (λ (t : List ℕ × List ℕ × List ℕ × List ℕ). t.3) first)

-- a state after rounds has sixteen words
pub state_words-double_rounds : (n : ℕ) (s : List ℕ) → state_words (double_rounds (suc n) s) ≡ double_rounds (suc n) s
unfolding diagonal_round double_rounds
state_words-double_rounds n s = refl
