use Rattle.std.proofs.Common.{◌≡◌, ℕ, List, None, IsSome, false, true, is_some, string_bytes, ◌∷◌, refl, sym, arith, ◌∙◌}
use Rattle.serde_json.specs.Data.{put}
use Rattle.serde_json.specs.Find.{get_member}
use Rattle.serde_json.specs.View.{view, members_view}
use Rattle.serde_json.proofs.Views.{Entry, member_here}
use Rattle.rusty_paseto_generic.proofs.MapLemmas.{found_at}
use Rattle.rusty_paseto_generic.proofs.MergeLemmas.{all_reserved, found_member, free_later, free_put, held_member, reserved_more}
use Rattle.rusty_paseto_generic.proofs.RuleLemmas.{none_from_test}
use Rattle.rusty_paseto_generic.proofs.builders.merging.reserve.Goals as goal

pub loop-key-preserved-in_ok-put_entry : goal.loop-key-preserved-in_ok-put_entry
loop-key-preserved-in_ok-put_entry c =
    let own = members_view c.args.members.now.entries in
    let before = members_view c.args.others.now.entries in
    let now = members_view c.loop-key.others.entries in
    let e : Entry = (c.in-Some.key.now, c.in-Some.field-0-1.now) in
    let key = string_bytes c.in-Some.key.now in
    let rest = c.next.new.self in
    let later : (q : List ℕ) → get_member q now ≡ None → get_member q own ≡ get_member q (members_view (e ∷ rest)) = rw c.in-Some.ensures.steps at c.loop-key.invariant.later in
    let tested : c.contains_key.result ≡ false = grind arith in
    let none : found_at key c.loop-key.others.entries ≡ None = none_from_test _ (rw c.as_str.ensures.value at (sym c.contains_key.ensures ∙ tested)) in
    let free : get_member key now ≡ None = sym (found_member key c.loop-key.others.entries None (sym none)) in
    let some : IsSome (get_member key own) = rw (later key free ∙ member_here key e rest refl) refl in
    let named : string_bytes c.in_ok-clone.field-0 ≡ key = c.in_ok-clone.ensures.cases in
    let is : members_view c.put_entry.new.members.entries ≡ put key (view c.mark.result) now = rw named at c.in_ok-put_entry.ensures.ok in
    record {
      places = rw is (reserved_more key (view c.mark.result) own before now c.loop-key.invariant.places free some c.mark.ensures);
      later = rw is (free_put own now (view c.mark.result) e rest later);
      ordered = c.put_entry.ensures.ordered;
    }

pub loop-key-preserved : goal.loop-key-preserved
loop-key-preserved c =
    let own = members_view c.args.members.now.entries in
    let now = members_view c.loop-key.others.entries in
    let e : Entry = (c.in-Some.key.now, c.in-Some.field-0-1.now) in
    let key = string_bytes c.in-Some.key.now in
    let rest = c.next.new.self in
    let later : (q : List ℕ) → get_member q now ≡ None → get_member q own ≡ get_member q (members_view (e ∷ rest)) = rw c.in-Some.ensures.steps at c.loop-key.invariant.later in
    let tested : c.contains_key.result ≡ true = grind arith in
    let some : is_some (found_at key c.loop-key.others.entries) ≡ true = rw c.as_str.ensures.value at (sym c.contains_key.ensures ∙ tested) in
    let has = held_member (found_at key c.loop-key.others.entries) (get_member key now) (found_member key c.loop-key.others.entries _ refl) some in
    record {
      places = c.loop-key.invariant.places;
      later = free_later own now e rest later has;
      ordered = c.loop-key.invariant.ordered;
    }

pub returns-clause-ok : goal.returns-clause-ok
returns-clause-ok c =
    all_reserved (members_view c.args.members.now.entries) (members_view c.args.others.now.entries) (members_view c.loop-key.others.entries)
    c.requires.others c.loop-key.invariant.places (rw c.in-None.ensures.steps.0 at c.loop-key.invariant.later)
