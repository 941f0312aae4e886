use Rattle.rusty_paseto_core.proofs.SealingLaws.{sealings_hold_one_text}
use Rattle.rusty_paseto_core.proofs.laws.sealings_hold_one_text.Goals as goal

pub returns : goal.returns
returns g c = sealings_hold_one_text g.V.LocalSuite.design g.met.V.LocalSuite.lawful
