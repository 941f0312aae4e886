-- What a validator of prime numbers finds.
use Rattle.std.specs.Prelude.{◌==◌, ◌+◌, ◌%◌, ℕ, zero, suc, List, Bool, true, false, not, if◌then◌else◌, Option, Some, None}
use Rattle.serde_json.specs.Data.{Data, number, unsigned}
use Rattle.rusty_paseto_claims.specs.Error.{Fault, custom_validation, unexpected}

-- one of so many numbers from 2 on divides the number
unfoldable pub has_divisor : ℕ → ℕ → Bool
has_divisor zero n = false
has_divisor (suc count) n = if n % (count + 2) == 0 then true else has_divisor count n

-- a number of 2 and more that no lesser one of 2 and more divides
abbrev pub is_prime : ℕ → Bool
is_prime zero = false
is_prime (suc zero) = false
is_prime (suc (suc count)) = not (has_divisor count (suc (suc count)))

abbrev pub prime_fault : List ℕ → Data → Option Fault
prime_fault key (number (unsigned n)) = if is_prime n then None else Some (custom_validation key)
prime_fault key other = Some (unexpected key)
