use Rattle.std.proofs.Common.{◌≡◌}
use Rattle.serde_json.specs.View.{members_view}
use Rattle.rusty_paseto_claims.specs.Whole.{first_odd}
use Rattle.rusty_paseto_generic.proofs.whole.check_whole.Given as goal

abbrev pub invariant-loop-key : goal.invariant-loop-key
invariant-loop-key l = first_odd (members_view l.key-iterator) ≡ first_odd (members_view l.members.entries)
