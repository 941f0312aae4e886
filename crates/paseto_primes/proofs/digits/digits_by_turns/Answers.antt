use Rattle.paseto_primes.proofs.DigitLaws.{turns_number}
use Rattle.paseto_primes.proofs.digits.digits_by_turns.Goals as goal

pub returns : goal.returns
returns c = turns_number
