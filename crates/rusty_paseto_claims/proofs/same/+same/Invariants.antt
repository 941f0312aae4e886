use Rattle.std.proofs.Common.{◌≡◌, drop}
use Rattle.std.specs.Slice.Iter.{iter_rest}
use Rattle.serde_json.specs.View.{items_view, members_view}
use Rattle.rusty_paseto_claims.specs.Same.{same_items, same_members}
use Rattle.rusty_paseto_claims.proofs.same.+same.Given as goal

abbrev pub invariant-are_items_same-loop-item : goal.invariant-are_items_same-loop-item
invariant-are_items_same-loop-item l = same_items (items_view (drop l.item-index l.item-items)) (items_view (iter_rest l.other_items)) ≡ same_items (items_view l.left.items) (items_view l.right.items)

abbrev pub invariant-are_members_same-loop-key : goal.invariant-are_members_same-loop-key
invariant-are_members_same-loop-key l = same_members (members_view l.key-iterator) (members_view l.other_members) ≡ same_members (members_view l.left.entries) (members_view l.right.entries)
