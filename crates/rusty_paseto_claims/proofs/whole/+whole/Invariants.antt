use Rattle.std.proofs.Common.{◌≡◌, drop}
use Rattle.serde_json.specs.View.{items_view, members_view}
use Rattle.serde_json.specs.Written.{items_have_float}
use Rattle.rusty_paseto_claims.specs.Whole.{first_odd}
use Rattle.rusty_paseto_claims.proofs.whole.+whole.Given as goal

abbrev pub invariant-are_items_whole-loop-item : goal.invariant-are_items_whole-loop-item
invariant-are_items_whole-loop-item l = items_have_float (items_view (drop l.item-index l.item-items)) ≡ items_have_float (items_view l.items.items)

abbrev pub invariant-find_odd-loop-key : goal.invariant-find_odd-loop-key
invariant-find_odd-loop-key l = first_odd (members_view l.key-iterator) ≡ first_odd (members_view l.members.entries)
