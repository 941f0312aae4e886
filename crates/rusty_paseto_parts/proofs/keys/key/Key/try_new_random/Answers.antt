use Rattle.std.proofs.Common.{rules}
use Rattle.rusty_paseto_parts.proofs.keys.key.Key.try_new_random.Goals as goal

pub returns-clause-failed : goal.returns-clause-failed
returns-clause-failed g c = search rules

pub returns-clause-given : goal.returns-clause-given
returns-clause-given g c = search rules
