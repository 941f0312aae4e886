use Rattle.std.proofs.Common.{◌∙◌}
use Rattle.std.proofs.lemmas.Result.{err_from_is_err_and}
use Rattle.serde_json.specs.View.{members_view}
use Rattle.rusty_paseto_generic.specs.Builders.Held.{held}
use Rattle.paseto_calls.proofs.ClaimLemmas.{all_set-fault, all_set-left, claim_refuses}
use Rattle.paseto_calls.proofs.issue.set_members.Goals as goal

pub returns-in_err-put_claims-clause-err : goal.returns-in_err-put_claims-clause-err
returns-in_err-put_claims-clause-err c =
    let p = err_from_is_err_and c.from_residual.result c.from_residual.ensures.1 in
    let old = held c.args.builder.now.builder.claims in
    let same = all_set-left c.args.members.entries c.remove.new.self.entries old c.remove.ensures.entries c.remove.ensures.updates.1 in
    let members = members_view c.args.members.entries in
    rw (p.1, p.2)
    (claim_refuses c.in_err-put_claims.field-0.0 _ members c.in_err-put_claims.ensures.fault
    (λ fault is. all_set-fault members old _ fault (same ∙ is)))

pub returns-clause-claims : goal.returns-clause-claims
returns-clause-claims c =
    all_set-left c.args.members.entries c.remove.new.self.entries (held c.args.builder.now.builder.claims) c.remove.ensures.entries
    c.remove.ensures.updates.1
    ∙ c.in_ok-put_claims.ensures.ok
