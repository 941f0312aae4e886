use Rattle.std.proofs.Common.{sym, ◌∙◌}
use Rattle.rusty_paseto_generic.proofs.RuleLemmas.{none_from_test}
use Rattle.rusty_paseto_generic.proofs.parsers.checks.Checks.reserve_named.Goals as goal

pub reserve_new-requires : goal.reserve_new-requires
reserve_new-requires g c = none_from_test _ (rw c.as_str.ensures.value at (sym c.contains_key.ensures ∙ c.if-contains_key.false))
