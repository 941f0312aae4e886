use Rattle.rusty_paseto_core.proofs.SealingLaws.{boxed_sealings_open}
use Rattle.rusty_paseto_core.proofs.laws.boxed_sealings_open.Goals as goal

pub returns : goal.returns
returns c = boxed_sealings_open
