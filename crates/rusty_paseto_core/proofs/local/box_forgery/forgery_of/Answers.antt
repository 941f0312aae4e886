use Rattle.std.proofs.Common.{◌∙◌}
use Rattle.std.proofs.lemmas.List.{take_rest}
use Rattle.rusty_paseto_core.proofs.local.box_forgery.forgery_of.Goals as goal

pub returns-clause-sealing : goal.returns-clause-sealing
returns-clause-sealing c = c.in_ok-sealing.ensures.items ∙ take_rest c.args.payload.now 24
