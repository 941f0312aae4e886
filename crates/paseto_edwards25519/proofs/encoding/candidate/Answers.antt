use Rattle.paseto_edwards25519.specs.Encoding.{candidate}
use Rattle.paseto_edwards25519.proofs.encoding.candidate.Goals as goal

pub returns-clause-value : goal.returns-clause-value
unfolding candidate
returns-clause-value c = cc
