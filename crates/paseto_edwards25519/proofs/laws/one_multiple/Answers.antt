use Rattle.paseto_edwards25519.proofs.OrderLaws.{one-multiple}
use Rattle.paseto_edwards25519.proofs.laws.one_multiple.Goals as goal

pub returns : goal.returns
returns c = one-multiple
