use Rattle.std.proofs.Common.{◌≡◌, option_map, sym, ap, refl, ◌∙◌}
use Rattle.serde_json.specs.Find.{get_member}
use Rattle.serde_json.specs.View.{view, members_view}
use Rattle.serde_json.proofs.Views.{view-lookup}
use Rattle.rusty_paseto_generic.specs.Builders.Claims.{without}
use Rattle.rusty_paseto_generic.proofs.MapLemmas.{found-held, is_object-Object, members_of-Object, members_view-remove_entry, whole-Object, whole-found, whole-without}
use Rattle.rusty_paseto_generic.proofs.builders.claims.Claims.remove.Goals as goal

pub invariant_of-self : goal.invariant_of-self
invariant_of-self c =
    let claims = c.args.self.now in
    let whole = whole-found (view claims.object) (members_view c.in-Some.members.now.entries) c.in-Some.ensures.value claims.whole in
    record {
      is_object = is_object-Object c.remove.new.self;
      whole = whole-Object c.remove.new.self
          (rw (c.remove.ensures.entries, members_view-remove_entry c.args.key.now c.in-Some.members.now.entries) (whole-without c.args.key.now _ whole));
    }

pub returns-clause-rest : goal.returns-clause-rest
returns-clause-rest c =
    let old = members_view c.in-Some.members.now.entries in
    let rest : members_view c.remove.new.self.entries ≡ without c.args.key.now old =
    rw (c.remove.ensures.entries, members_view-remove_entry c.args.key.now c.in-Some.members.now.entries) refl in
    members_of-Object c.remove.new.self
    ∙ rest
    ∙ ap (without c.args.key.now) (sym (found-held (view c.args.self.now.object) old c.in-Some.ensures.value))

pub returns-clause-gone : goal.returns-clause-gone
returns-clause-gone c =
    ap (get_member c.args.key.now) (members_of-Object c.remove.new.self)
    ∙ sym (view-lookup c.args.key.now _)
    ∙ ap (option_map view) c.remove.ensures.updates.1
