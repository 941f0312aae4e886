use Rattle.rusty_paseto_core.proofs.SealingLaws.{sealings_open}
use Rattle.rusty_paseto_core.proofs.laws.sealings_open.Goals as goal

pub returns : goal.returns
returns g c = sealings_open g.V.LocalSuite.design g.met.V.LocalSuite.lawful
