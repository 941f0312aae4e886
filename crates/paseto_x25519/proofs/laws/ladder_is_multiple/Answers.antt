use Rattle.paseto_x25519.proofs.LadderMultiples.{ladder_is_multiple}
use Rattle.paseto_x25519.proofs.laws.ladder_is_multiple.Goals as goal

pub returns : goal.returns
returns c = ladder_is_multiple
