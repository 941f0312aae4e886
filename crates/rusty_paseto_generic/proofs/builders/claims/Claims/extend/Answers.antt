use Rattle.std.proofs.Common.{ap}
use Rattle.std.proofs.lemmas.Result.{on_err_weaker}
use Rattle.serde_json.specs.View.{view, members_view}
use Rattle.rusty_paseto_generic.proofs.MapLemmas.{is_object-Object, whole-Object, whole-found, whole-none_odd, whole-put_all_answer}
use Rattle.rusty_paseto_generic.proofs.builders.claims.Claims.extend.Goals as goal

pub put_members-requires-clause-members : goal.put_members-requires-clause-members
put_members-requires-clause-members c = whole-found (view c.args.self.now.object) (members_view c.in-Some.members.now.entries) c.in-Some.ensures.value c.args.self.now.whole

pub put_members-requires-clause-others : goal.put_members-requires-clause-others
put_members-requires-clause-others c = whole-none_odd (members_view c.args.more.entries) c.in_ok-check_whole.ensures.ok

pub invariant_of-self : goal.invariant_of-self
invariant_of-self c =
    let claims = c.args.self.now in
    let more = members_view c.args.more.entries in
    let old = members_view c.in-Some.members.now.entries in
    let kept = on_err_weaker c.put_members.result (λ same. ap members_view same) c.put_members.ensures.err in
    let whole = whole-found (view claims.object) old c.in-Some.ensures.value claims.whole in
    record {
      is_object = is_object-Object c.put_members.new.members;
      whole = whole-Object c.put_members.new.members
          (whole-put_all_answer c.put_members.result more old _ c.put_members.ensures.ok kept (whole-none_odd more c.in_ok-check_whole.ensures.ok) whole);
    }
