use Rattle.std.proofs.Common.{sym, ◌∙◌}
use Rattle.rusty_paseto_generic.proofs.RuleLemmas.{none_from_test}
use Rattle.rusty_paseto_generic.proofs.parsers.checks.Checks.store_expected.Goals as goal

pub store_new-requires : goal.store_new-requires
store_new-requires g c = none_from_test _ (rw c.as_str.ensures.value at (sym c.contains_key.ensures ∙ c.if-contains_key.false))
