use Rattle.std.proofs.Common.{⊎_elim, inl, subst, sym}
use Rattle.std.proofs.lemmas.Result.{err_from_is_err_and}
use Rattle.rusty_paseto_claims.specs.Moment.{HasShortYear, IsMomentText}
use Rattle.rusty_paseto.proofs.Lifetimes.{gets_end, memory_of_claim}
use Rattle.rusty_paseto.proofs.paseto_builder.PasetoBuilderCountingSetter.put_lifetime.Goals as goal

pub returns-in_err-claim-clause-fault : goal.returns-in_err-claim-clause-fault
returns-in_err-claim-clause-fault g c =
    let found = c.in-Some.ensures.found in
    let p = err_from_is_err_and c.from_residual.result c.from_residual.ensures.1 in
    let none = ⊎_elim (λ memory. memory) (λ unfit. absurd (unfit.year (subst HasShortYear (sym found.0) found.1.year))) c.in_err-claim.ensures.err in
    rw (p.1, p.2) (inl (memory_of_claim c.in_err-claim.field-0.0 none))

pub returns-clause-ok : goal.returns-clause-ok
returns-clause-ok g c =
    let found = c.in-Some.ensures.found in
    let text = subst (λ at. IsMomentText at c.in_ok-claim.claim) found.0 c.in_ok-claim.ensures.text in
    gets_end _ c.in_ok-claim.claim _ _ c.put_claim.result found.1 text c.put_claim.ensures.ok
