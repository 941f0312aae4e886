use Rattle.rusty_paseto_core.proofs.CollisionLaws.{v1_shows, v3_shows}
use Rattle.rusty_paseto_core.proofs.laws.collisions_show_sha384.Goals as goal

pub returns-clause-v1 : goal.returns-clause-v1
returns-clause-v1 c = v1_shows

pub returns-clause-v3 : goal.returns-clause-v3
returns-clause-v3 c = v3_shows
