use Rattle.std.proofs.Common.{ℕ, List, ap}
use Rattle.paseto_argon2.specs.Permutation.{gb, half_gb}
use Rattle.paseto_argon2.proofs.permutation.gb.Goals as goal

pub returns : goal.returns
unfolding gb
returns c o p q t ea eb ec ed =
    let half : ℕ → ℕ × ℕ × ℕ × ℕ = λ j. half_gb (o j) (p j) (q j) (t j) 32 24 in
    let first = c.half_gb.ensures o p q t ea eb ec ed in
    c.half_gb-2.ensures (λ j. (half j).0) (λ j. (half j).1) (λ j. (half j).2) (λ j. (half j).3)
    (ap (λ (v : List ℕ × List ℕ × List ℕ × List ℕ). v.0) first) (ap (λ (v : List ℕ × List ℕ × List ℕ × List ℕ). v.1) first)
    (ap (λ (v : List ℕ × List ℕ × List ℕ × List ℕ). v.2) first) (ap (λ (v : List ℕ × List ℕ × List ℕ × List ℕ). v.3) first)
