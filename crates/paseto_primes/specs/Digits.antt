-- The digits of a number to the base 16, and sums of every fourth.
use Rattle.std.specs.Prelude.{ℕ, zero, suc, ◌+◌, ◌-◌, ◌*◌, ◌/◌, ◌%◌, ◌^◌}

-- digit i of a number, lowest first
abbrev pub digit : ℕ → ℕ → ℕ
digit n i = n / 16 ^ i % 16

-- of each of the m lowest words of 16 bits the digit of this turn, as its lowest: digit 4 * i + turn, at the place of
-- digit 4 * i
unfoldable pub row_sum : ℕ → ℕ → ℕ → ℕ
row_sum n turn zero = 0
row_sum n turn (suc m) = row_sum n turn m + digit n (4 * m + turn) * 2 ^ (16 * m)

-- what the first k of four turns over m words give, from the highest digit of each word
unfoldable pub turn_sum : ℕ → ℕ → ℕ → ℕ
turn_sum n m zero = 0
turn_sum n m (suc k) = 16 * turn_sum n m k + row_sum n (3 - k) m
