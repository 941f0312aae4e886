use Rattle.paseto_weierstrass_laws.proofs.Lines.{chord-sum}
use Rattle.paseto_weierstrass_laws.proofs.group.sum_by_chord.Goals as goal

pub returns : goal.returns
returns c = chord-sum
