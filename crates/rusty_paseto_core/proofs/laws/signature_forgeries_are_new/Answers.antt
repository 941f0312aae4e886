use Rattle.rusty_paseto_core.proofs.SignatureForgeries.{signature_forgeries_are_new}
use Rattle.rusty_paseto_core.proofs.laws.signature_forgeries_are_new.Goals as goal

pub returns : goal.returns
returns g c =
    signature_forgeries_are_new g.V.Verifies.valid g.V.Verifies.refused g.V.PublicSuite.public_design g.met.V.PublicSuite.public_lawful.is_header
