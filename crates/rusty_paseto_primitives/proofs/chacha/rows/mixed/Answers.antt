use Rattle.std.proofs.Common.{ℕ, List, [], slice_index_or, refl, ap}
use Rattle.rusty_paseto_primitives.proofs.QuarterRounds.{mixed_of_halves}
use Rattle.rusty_paseto_primitives.proofs.chacha.rows.mixed.Goals as goal

pub returns : goal.returns
returns c p q u v e =
    let at = λ (k : ℕ). ap (λ (x : List (List ℕ)). slice_index_or x k []) e in
    rw (mixed_of_halves _ _ p q u v (c.half_mixed.ensures p q u v (at 0) (at 1) (at 2) (at 3)) c.half_mixed-2.ensures) refl
