use Rattle.std.proofs.Common.{codes, refl}
use Rattle.clap.specs.Words.{new_app}
use Rattle.paseto_words.proofs.Adding.{as_before}
use Rattle.paseto_words.proofs.app.named.Goals as goal

pub returns : goal.returns
returns c = as_before (new_app (codes "paseto")) c.new.result _ _ (c.new.ensures.app, c.new.ensures.local) c.about.ensures refl refl
