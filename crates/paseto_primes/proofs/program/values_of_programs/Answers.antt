use Rattle.paseto_primes.proofs.ProgramLaws.{agree-run}
use Rattle.paseto_primes.proofs.program.values_of_programs.Goals as goal

pub returns : goal.returns
returns c = agree-run
