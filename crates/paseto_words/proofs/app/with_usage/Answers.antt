use Rattle.std.proofs.Common.{refl}
use Rattle.paseto_words.proofs.Adding.{as_before}
use Rattle.paseto_words.proofs.app.with_usage.Goals as goal

pub returns-in_default : goal.returns-in_default
returns-in_default c a is = is

pub returns : goal.returns
returns c a is = as_before a _ c.override_usage.result _ is c.override_usage.ensures refl refl
