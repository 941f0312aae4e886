-- Certificates that numbers are prime: each rests on those of smaller primes.
use Rattle.std.specs.Prelude.{ℕ, zero, suc, ◌+◌, ◌-◌, ◌*◌, ◌/◌, ◌%◌, ◌^◌, Bool, true, false, ◌&&◌, ◌||◌, List, [], ◌∷◌, nat_eq, nat_le, nat_lt}
use Rattle.paseto_primes.specs.Power.{raised}

-- a prime divisor of n - 1, a number whose power by n - 1 is 1 modulo n, and the inverse of its power by
-- (n - 1) / divisor, less 1
pub record Witness : Type 0 where
  pub divisor : ℕ
  pub base : ℕ
  pub inverse : ℕ

-- why n is prime: as trial division finds no divisor among so many numbers from 2 on; or by witnesses, where n has at
-- most so many bits
pub data Certificate : Type 0 where
  divided : ℕ → ℕ → Certificate
  witnessed : ℕ → ℕ → List Witness → Certificate

unfoldable pub number : Certificate → ℕ
number (divided n count) = n
number (witnessed n bits ws) = n

-- how many of the numbers from k on, as many as count says, divide n
unfoldable pub divisors : ℕ → ℕ → ℕ → ℕ
divisors zero k n = 0
divisors (suc count) k n = (1 - n % k) + divisors count (suc k) n

-- n is the number of one of the certificates
unfoldable pub is_listed : ℕ → List Certificate → Bool
is_listed n [] = false
is_listed n (c ∷ cs) = nat_eq n (number c) || is_listed n cs

unfoldable pub product : List Witness → ℕ
product [] = 1
product (w ∷ ws) = w.divisor * product ws

unfoldable pub is_witness : List Certificate → ℕ → ℕ → Witness → Bool
is_witness smaller bits n w =
    let part = (n - 1) / w.divisor in
    is_listed w.divisor smaller
    && (nat_eq n (suc (w.divisor * part))
    && (nat_eq (raised bits w.base (w.divisor * part) n) 1
    && nat_eq ((w.inverse * (raised bits w.base part n + (n - 1))) % n) 1))

-- each is a witness, and no divisor stands twice
unfoldable pub are_witnesses : List Certificate → ℕ → ℕ → List Witness → Bool
are_witnesses smaller bits n [] = true
are_witnesses smaller bits n (w ∷ ws) =
    is_witness smaller bits n w && (nat_lt 0 (product ws % w.divisor) && are_witnesses smaller bits n ws)

-- the divisors that were tried reach the square root, or the product of those of the witnesses does
unfoldable pub is_certificate : List Certificate → Certificate → Bool
is_certificate smaller (divided n count) =
    nat_lt 1 n && (nat_lt n ((count + 2) * (count + 2)) && nat_eq (divisors count 2 n) 0)
is_certificate smaller (witnessed n bits ws) =
    nat_lt 1 n
    && (nat_le n (2 ^ bits)
    && (nat_lt n (suc (product ws) * suc (product ws)) && are_witnesses smaller bits n ws))

-- each certificate rests on those behind it
unfoldable pub is_chain : List Certificate → Bool
is_chain [] = true
is_chain (c ∷ cs) = is_certificate cs c && is_chain cs
