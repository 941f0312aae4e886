use Rattle.std.proofs.Common.{◌≡◌, Some, false, true, string_bytes, ◌∷◌, refl, sym, ◌∙◌}
use Rattle.std.proofs.lemmas.Bool.{or_parts}
use Rattle.serde_json.specs.Find.{get_member}
use Rattle.serde_json.specs.View.{view, members_view}
use Rattle.serde_json.specs.Written.{has_float, members_have_float}
use Rattle.serde_json.proofs.Views.{Entry, member_here}
use Rattle.rusty_paseto_generic.specs.Builders.Reserved.{is_marked}
use Rattle.rusty_paseto_generic.proofs.MergeLemmas.{MarkedLater, filled_more, mark_float, marked_later, marked_put}
use Rattle.rusty_paseto_generic.proofs.builders.merging.fill.Goals as goal

pub loop-key-preserved-then-is_reserved : goal.loop-key-preserved-then-is_reserved
loop-key-preserved-then-is_reserved c =
    let own = members_view c.args.members.entries in
    let now = members_view c.loop-key.all.entries in
    let e : Entry = (c.in-Some.key, c.in-Some.value) in
    let key = string_bytes c.in-Some.key in
    let rest = c.next.new.self in
    let later : MarkedLater own now (members_view (e ∷ rest)) = rw c.in-Some.ensures.steps at c.loop-key.invariant.later in
    let whole : members_have_float (members_view (e ∷ rest)) ≡ false = rw c.in-Some.ensures.steps at c.loop-key.invariant.whole in
    let both = or_parts (has_float (view c.in-Some.value)) (members_have_float (members_view rest)) whole in
    let marks : is_marked (get_member key now) ≡ true = rw c.as_str.ensures.value at (sym c.is_reserved.ensures ∙ c.if-is_reserved.true) in
    let has : get_member key own ≡ Some (view c.in-Some.value) = (later key marks).1 ∙ member_here key e rest refl in
    let plain = mark_float (view c.in-Some.value) both.0 in
    record {
      same = rw c.replace.ensures.put (filled_more key (view c.in-Some.value) own (members_view c.args.all.now.entries) now c.loop-key.invariant.same marks has plain (later key marks).0);
      later = rw c.replace.ensures.put (marked_put own now e rest later plain);
      whole = both.1;
      ordered = c.replace.ensures.ordered;
    }

pub loop-key-preserved : goal.loop-key-preserved
loop-key-preserved c =
    let own = members_view c.args.members.entries in
    let now = members_view c.loop-key.all.entries in
    let e : Entry = (c.in-Some.key, c.in-Some.value) in
    let key = string_bytes c.in-Some.key in
    let rest = c.next.new.self in
    let later : MarkedLater own now (members_view (e ∷ rest)) = rw c.in-Some.ensures.steps at c.loop-key.invariant.later in
    let whole : members_have_float (members_view (e ∷ rest)) ≡ false = rw c.in-Some.ensures.steps at c.loop-key.invariant.whole in
    let not : is_marked (get_member key now) ≡ false = rw c.as_str.ensures.value at (sym c.is_reserved.ensures ∙ c.if-is_reserved.false) in
    record {
      same = c.loop-key.invariant.same;
      later = marked_later own now e rest later not;
      whole = (or_parts (has_float (view c.in-Some.value)) (members_have_float (members_view rest)) whole).1;
      ordered = c.loop-key.invariant.ordered;
    }
