use Rattle.std.proofs.Common.{rules}
use Rattle.rusty_paseto_core.proofs.local.tag_collision.cover_the_same.Goals as goal

pub returns-then-not-binds_assertion : goal.returns-then-not-binds_assertion
returns-then-not-binds_assertion g c = search rules

pub returns-else-not-binds_assertion : goal.returns-else-not-binds_assertion
returns-else-not-binds_assertion g c = search rules

pub returns-else-eq-3 : goal.returns-else-eq-3
returns-else-eq-3 g c = search rules
