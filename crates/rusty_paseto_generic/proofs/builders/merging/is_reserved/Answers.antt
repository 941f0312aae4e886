use Rattle.std.proofs.Common.{None, Some, ap, ◌∙◌}
use Rattle.rusty_paseto_generic.specs.Builders.Reserved.{is_marked}
use Rattle.rusty_paseto_generic.proofs.MergeLemmas.{found_member}
use Rattle.rusty_paseto_generic.proofs.builders.merging.is_reserved.Goals as goal

pub returns-in-Some : goal.returns-in-Some
returns-in-Some c =
    c.is_f64.ensures ∙ ap is_marked (found_member c.args.key.now c.args.all.now.entries (Some c.in-Some.value.now) c.in-Some.ensures.value)

pub returns-in-None : goal.returns-in-None
returns-in-None c = ap is_marked (found_member c.args.key.now c.args.all.now.entries None c.in-None.ensures.value)
