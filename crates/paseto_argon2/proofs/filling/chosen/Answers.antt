use Rattle.std.proofs.Common.{refl}
use Rattle.paseto_argon2.specs.Filling.{chosen}
use Rattle.paseto_argon2.proofs.filling.chosen.Goals as goal

pub returns-clause-value : goal.returns-clause-value
unfolding chosen
returns-clause-value c = rw (c.saturating_sub-2.ensures, c.saturating_sub.ensures) refl
