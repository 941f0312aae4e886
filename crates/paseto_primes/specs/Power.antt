-- Powers modulo a number.
use Rattle.std.specs.Prelude.{ℕ, zero, suc, ◌*◌, ◌/◌, ◌%◌, ◌^◌}

-- x ^ n modulo p, for n below 2 ^ bits, by repeated squaring: it computes where n is long
unfoldable pub raised : ℕ → ℕ → ℕ → ℕ → ℕ
raised zero x n p = 1 % p
raised (suc bits) x n p = (x ^ (n % 2) * raised bits ((x * x) % p) (n / 2) p) % p
