use Rattle.rusty_paseto_core.proofs.Forgeries.{forgeries_are_new}
use Rattle.rusty_paseto_core.proofs.laws.forgeries_are_new.Goals as goal

pub returns : goal.returns
returns g c = forgeries_are_new g.V.LocalSuite.design g.met.V.LocalSuite.lawful
