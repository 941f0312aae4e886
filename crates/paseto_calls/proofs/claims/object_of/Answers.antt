use Rattle.serde_json.specs.View.{members_view, view}
use Rattle.paseto_calls.proofs.ClaimLemmas.{object_found}
use Rattle.paseto_calls.proofs.claims.object_of.Goals as goal

pub returns-in-Ok : goal.returns-in-Ok
returns-in-Ok c =
    rw c.ok_or.ensures.value
    (object_found (λ members. members_view members.entries) c.args.text.now (view c.in-Ok.value) c.members_of.result c.in-Ok.ensures.ok c.members_of.ensures)
