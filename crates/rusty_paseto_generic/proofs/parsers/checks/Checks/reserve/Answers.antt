use Rattle.std.proofs.Common.{sym, ◌∙◌}
use Rattle.rusty_paseto_generic.proofs.RuleLemmas.{none_from_test}
use Rattle.rusty_paseto_generic.proofs.parsers.checks.Checks.reserve.Goals as goal

pub reserve_new-requires : goal.reserve_new-requires
reserve_new-requires g c = rw c.in_ok-from_str.ensures.ok (none_from_test _ (sym c.contains_key.ensures ∙ c.if-contains_key.false))
