use Rattle.rusty_paseto_core.proofs.SealingLaws.{signings_verify}
use Rattle.rusty_paseto_core.proofs.laws.signings_verify.Goals as goal

pub returns : goal.returns
returns g c = signings_verify g.V.Verifies.valid g.V.Verifies.refused g.V.PublicSuite.public_design
