use Rattle.rusty_paseto_core.proofs.BoxForgeries.{box_forgeries_are_new}
use Rattle.rusty_paseto_core.proofs.laws.box_forgeries_are_new.Goals as goal

pub returns : goal.returns
returns g c = box_forgeries_are_new g.B.SealedBox.sealing g.met.B.SealedBox.lawful
