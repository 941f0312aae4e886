-- Prime numbers.
use Rattle.std.specs.Prelude.{ℕ, ◌%◌, ◌<◌, ◌≡◌, ◌⊎◌}

-- above 1, and divided by 1 and itself alone
unfoldable pub IsPrime : ℕ → Type 0
IsPrime p = (1 < p) × ((d : ℕ) → p % d ≡ 0 → (d ≡ 1) ⊎ (d ≡ p))

-- a prime number divides n
abbrev pub HasPrimeDivisor : ℕ → Type 0
HasPrimeDivisor n = (p : ℕ) × IsPrime p × (n % p ≡ 0)
