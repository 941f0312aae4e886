use Rattle.std.proofs.Common.{◌≡◌, true, false, ap, arith, string_bytes, sym, ◌∙◌}
use Rattle.std.proofs.lemmas.Result.{on_err_weaker}
use Rattle.serde_json.specs.View.{view, members_view}
use Rattle.serde_json.specs.Written.{has_float}
use Rattle.rusty_paseto_generic.proofs.MapLemmas.{is_object-Object, not_false, whole-Object, whole-found, whole-put_answer}
use Rattle.rusty_paseto_generic.proofs.builders.claims.Claims.store.Goals as goal

pub invariant_of-self : goal.invariant_of-self
invariant_of-self c =
    let claims = c.args.self.now in
    let tested : c.is_whole.result ≡ true = grind arith in
    let value : has_float (view c.args.value) ≡ false = not_false _ (sym c.is_whole.ensures ∙ tested) in
    let kept = on_err_weaker c.put_entry.result (λ same. ap members_view same) c.put_entry.ensures.err in
    let whole = whole-found (view claims.object) (members_view c.in-Some.members.now.entries) c.in-Some.ensures.value claims.whole in
    record {
      is_object = is_object-Object c.put_entry.new.members;
      whole = whole-Object c.put_entry.new.members (whole-put_answer c.put_entry.result (string_bytes c.args.key) _ _ _ c.put_entry.ensures.ok kept value whole);
    }
