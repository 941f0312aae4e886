-- Numbers that are there or not.
use Rattle.std.specs.Prelude.{ℕ, nat_eq, nat_lt, if◌then◌else◌}

-- a number where a byte is greater than another
abbrev pub above : ℕ → ℕ → ℕ → ℕ
above byte other number = if nat_lt other byte then number else 0

-- a number where a byte is another
abbrev pub equal : ℕ → ℕ → ℕ → ℕ
equal byte other number = if nat_eq byte other then number else 0
