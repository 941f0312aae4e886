use Rattle.paseto_primes.proofs.ProgramLaws.{after-program}
use Rattle.paseto_primes.proofs.program.equal_after_program.Goals as goal

pub returns : goal.returns
returns c = after-program
