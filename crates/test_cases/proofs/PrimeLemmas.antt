-- Facts about divisors.
use Rattle.std.proofs.Common.{◌≡◌, ◌≢◌, ◌+◌, ◌-◌, ◌%◌, ◌==◌, if◌then◌else◌, true, false, ℕ, zero, suc, refl, arith}
use Rattle.test_cases.specs.Primes.{has_divisor}

pub divisor_none : (count n : ℕ) → count ≡ 0 → has_divisor count n ≡ false
unfolding has_divisor
divisor_none count n none = rw none refl

pub divisor_more : (count n : ℕ) → count ≢ 0
    → has_divisor count n ≡ (if n % (count + 1) == 0 then true else has_divisor (count - 1) n)
unfolding has_divisor
divisor_more zero n some = absurd (some refl)
divisor_more (suc count) n some =
    let next : suc count + 1 ≡ count + 2 = omega arith in
    let less : suc count - 1 ≡ count = omega arith in
    rw (next, less)
