use Rattle.paseto_primes.proofs.PowerLaws.{raised-is}
use Rattle.paseto_primes.proofs.power.repeated_squaring.Goals as goal

pub returns : goal.returns
returns c = raised-is
