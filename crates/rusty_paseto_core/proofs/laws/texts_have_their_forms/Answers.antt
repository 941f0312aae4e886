use Rattle.rusty_paseto_core.proofs.SealingLaws.{texts_have_their_forms}
use Rattle.rusty_paseto_core.proofs.laws.texts_have_their_forms.Goals as goal

pub returns : goal.returns
returns g c = texts_have_their_forms g.V.LocalSuite.design
