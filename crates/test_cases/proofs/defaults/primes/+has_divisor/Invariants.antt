use Rattle.test_cases.proofs.defaults.primes.+has_divisor.Given as goal

abbrev pub decreases-has_divisor : goal.decreases-has_divisor
decreases-has_divisor l = l.count
