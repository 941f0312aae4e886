use Rattle.rusty_paseto_core.proofs.CollisionLaws.{collisions_show_tag}
use Rattle.rusty_paseto_core.proofs.laws.collisions_show_tag.Goals as goal

pub returns : goal.returns
returns g c = collisions_show_tag g.V.LocalSuite.design g.met.V.LocalSuite.lawful
