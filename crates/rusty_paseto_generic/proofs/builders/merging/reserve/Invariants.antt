use Rattle.std.proofs.Common.{◌≡◌, ℕ, List, None, string_cmp}
use Rattle.std.specs.List.Sorted.{IsStrictlySortedBy}
use Rattle.std.specs.Map.{keys_of}
use Rattle.serde_json.specs.Find.{get_member}
use Rattle.serde_json.specs.View.{members_view}
use Rattle.rusty_paseto_generic.proofs.MergeLemmas.{HeldAt}
use Rattle.rusty_paseto_generic.proofs.builders.merging.reserve.Given as goal

abbrev pub invariant-loop-key : goal.invariant-loop-key
invariant-loop-key l = record {
  places : (q : List ℕ) → HeldAt (get_member q (members_view l.members.entries)) (get_member q (members_view l.fn.others.entries)) (get_member q (members_view l.others.entries));
  later : (q : List ℕ) → get_member q (members_view l.others.entries) ≡ None → get_member q (members_view l.members.entries) ≡ get_member q (members_view l.key-iterator);
  ordered : IsStrictlySortedBy string_cmp (keys_of l.others.entries);
}
