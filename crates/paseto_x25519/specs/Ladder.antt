-- The Montgomery ladder of curve25519 (RFC 7748, section 5), with the names that stand there, on numbers modulo p.
use Rattle.std.specs.Prelude.{ℕ, zero, suc, ◌+◌, ◌-◌, ◌/◌, ◌%◌, ◌^◌}
use Rattle.paseto_edwards_laws.specs.Edwards25519.{prime}
use Rattle.paseto_edwards25519.specs.Field.{minus, plus, power, times}

-- x_2, z_2, x_3, z_3, and swap
pub record Numbers : Type 0 where
  pub x2 : ℕ
  pub z2 : ℕ
  pub x3 : ℕ
  pub z3 : ℕ
  pub swap : ℕ

-- (486662 - 2) / 4
abbrev pub a24 : ℕ
a24 = 121665

-- both cswap
unfoldable pub swapped : ℕ → Numbers → Numbers
swapped zero n = n
swapped (suc _) n = record { x2 = n.x3; z2 = n.z3; x3 = n.x2; z3 = n.z2; swap = n.swap }

-- what follows the swaps in a turn
unfoldable pub stepped : ℕ → ℕ → Numbers → Numbers
stepped x1 bit n =
    let a = plus n.x2 n.z2 in
    let aa = times a a in
    let b = minus n.x2 n.z2 in
    let bb = times b b in
    let e = minus aa bb in
    let c = plus n.x3 n.z3 in
    let dd = minus n.x3 n.z3 in
    let da = times dd a in
    let cb = times c b in
    record {
      x2 = times aa bb;
      z2 = times e (plus aa (times a24 e));
      x3 = times (plus da cb) (plus da cb);
      z3 = times x1 (times (minus da cb) (minus da cb));
      swap = bit;
    }

-- a turn: swap and the bit differ where the two sums change places
abbrev pub turned : ℕ → ℕ → Numbers → Numbers
turned x1 bit n = stepped x1 bit (swapped ((n.swap + bit) % 2) n)

-- before the first turn
abbrev pub start : ℕ → Numbers
start x1 = record { x2 = 1; z2 = 0; x3 = x1; z3 = 1; swap = 0 }

-- what the first turns make: turn t reads bit 254 - t of k
unfoldable pub turns : ℕ → ℕ → ℕ → Numbers
turns k x1 zero = start x1
turns k x1 (suc t) = turned x1 (k / 2 ^ (254 - t) % 2) (turns k x1 t)

-- x_2 / z_2, after the last swaps
unfoldable pub quotient : Numbers → ℕ
quotient n = let last = swapped n.swap n in times last.x2 (power last.z2 (prime - 2))

abbrev pub ladder : ℕ → ℕ → ℕ
ladder k x1 = quotient (turns k x1 255)
