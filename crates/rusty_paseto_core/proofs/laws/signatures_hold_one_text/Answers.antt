use Rattle.rusty_paseto_core.proofs.SealingLaws.{signatures_hold_one_text}
use Rattle.rusty_paseto_core.proofs.laws.signatures_hold_one_text.Goals as goal

pub returns : goal.returns
returns g c = signatures_hold_one_text g.V.Verifies.valid g.V.Verifies.refused g.V.PublicSuite.public_design g.met.V.PublicSuite.public_lawful.is_header
