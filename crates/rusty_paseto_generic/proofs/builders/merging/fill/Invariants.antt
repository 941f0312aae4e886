use Rattle.std.proofs.Common.{◌≡◌, ℕ, List, false, string_cmp}
use Rattle.std.specs.List.Sorted.{IsStrictlySortedBy}
use Rattle.std.specs.Map.{keys_of}
use Rattle.serde_json.specs.Find.{get_member}
use Rattle.serde_json.specs.View.{members_view}
use Rattle.serde_json.specs.Written.{members_have_float}
use Rattle.rusty_paseto_generic.specs.Builders.Reserved.{filled}
use Rattle.rusty_paseto_generic.proofs.MergeLemmas.{MarkedLater}
use Rattle.rusty_paseto_generic.proofs.builders.merging.fill.Given as goal

abbrev pub invariant-loop-key : goal.invariant-loop-key
invariant-loop-key l = record {
  same : (q : List ℕ) → filled (get_member q (members_view l.all.entries)) (get_member q (members_view l.fn.members.entries))
      ≡ filled (get_member q (members_view l.fn.all.entries)) (get_member q (members_view l.fn.members.entries));
  later : MarkedLater (members_view l.fn.members.entries) (members_view l.all.entries) (members_view l.key-iterator);
  whole : members_have_float (members_view l.key-iterator) ≡ false;
  ordered : IsStrictlySortedBy string_cmp (keys_of l.all.entries);
}
