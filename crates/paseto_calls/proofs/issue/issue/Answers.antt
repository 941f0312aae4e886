use Rattle.std.proofs.Common.{inr}
use Rattle.std.proofs.lemmas.Int.{to_z-of_z}
use Rattle.std.proofs.lemmas.Result.{err_from_is_err_and}
use Rattle.serde_json.specs.View.{members_view}
use Rattle.rusty_paseto_generic.specs.Builders.Held.{held}
use Rattle.paseto_calls.specs.declared.wanted.Wanted.TheVariants.{Writers}
use Rattle.paseto_calls.proofs.IssueExits.{members_refuse, object_refuses, token_made, token_refused}
use Rattle.paseto_calls.proofs.Taken.{exit_made, fault_refuses, first_fault, no_fault, second_fault, suits, text_refuses, writers_write}
use Rattle.paseto_calls.proofs.TokenExits.{is_declined, is_written}
use Rattle.paseto_calls.proofs.TokenWhole.{are_moments, issue_whole}
use Rattle.paseto_calls.proofs.issue.issue.Goals as goal

pub returns-in_err-writer-clause-made : goal.returns-in_err-writer-clause-made
returns-in_err-writer-clause-made c =
    exit_made _ _ _ (err_from_is_err_and c.from_residual.result c.from_residual.ensures.1) (fault_refuses _ _ (first_fault _ _ _ c.in_err-writer.ensures))

pub returns-in_err-writer-clause-whole : goal.returns-in_err-writer-clause-whole
returns-in_err-writer-clause-whole c = issue_whole c.args.key.now c.args.drawn.now c.args.claims.now c.args.now c.args.footer.now c.args.assertion.now
    (are_moments c.args.now c.ranges.now) _ (returns-in_err-writer-clause-made c)

pub returns-in_err-drawn-clause-made : goal.returns-in_err-drawn-clause-made
returns-in_err-drawn-clause-made c =
    exit_made _ _ _ (err_from_is_err_and c.from_residual-in_err-drawn.result c.from_residual-in_err-drawn.ensures.1)
    (fault_refuses _ _ (inr (second_fault _ _ _ c.in_ok-writer.ensures.1 (rw (c.draws.ensures, c.in_ok-writer.ensures.0) at c.in_err-drawn.ensures))))

pub returns-in_err-drawn-clause-whole : goal.returns-in_err-drawn-clause-whole
returns-in_err-drawn-clause-whole c = issue_whole c.args.key.now c.args.drawn.now c.args.claims.now c.args.now c.args.footer.now c.args.assertion.now
    (are_moments c.args.now c.ranges.now) _ (returns-in_err-drawn-clause-made c)

pub returns-in_err-texts-clause-made : goal.returns-in_err-texts-clause-made
returns-in_err-texts-clause-made c =
    let front = rw (c.draws.ensures, c.in_ok-writer.ensures.0) at c.in_ok-drawn.ensures in
    exit_made _ _ _ (err_from_is_err_and c.from_residual-in_err-texts.result c.from_residual-in_err-texts.ensures.1)
    (text_refuses _ _ (no_fault _ _ c.in_ok-writer.ensures.1 front.2) c.in_err-texts.ensures)

pub returns-in_err-texts-clause-whole : goal.returns-in_err-texts-clause-whole
returns-in_err-texts-clause-whole c = issue_whole c.args.key.now c.args.drawn.now c.args.claims.now c.args.now c.args.footer.now c.args.assertion.now
    (are_moments c.args.now c.ranges.now) _ (returns-in_err-texts-clause-made c)

pub returns-in_err-members-clause-made : goal.returns-in_err-members-clause-made
returns-in_err-members-clause-made c =
    let lent = c.in_ok-texts.ensures in
    let front = rw (c.draws.ensures, c.in_ok-writer.ensures.0) at c.in_ok-drawn.ensures in
    exit_made _ _ _ (err_from_is_err_and c.from_residual-in_err-members.result c.from_residual-in_err-members.ensures.1)
    (object_refuses c.args.key.now c.args.drawn.now c.args.claims.now c.args.now c.args.footer.now c.args.assertion.now
    (record { fine = no_fault _ _ c.in_ok-writer.ensures.1 front.2; texts = lent.5 }) _ (rw lent.0 at c.in_err-members.ensures))

pub returns-in_err-members-clause-whole : goal.returns-in_err-members-clause-whole
returns-in_err-members-clause-whole c = issue_whole c.args.key.now c.args.drawn.now c.args.claims.now c.args.now c.args.footer.now c.args.assertion.now
    (are_moments c.args.now c.ranges.now) _ (returns-in_err-members-clause-made c)

pub returns-in_err-claims-clause-made : goal.returns-in_err-claims-clause-made
returns-in_err-claims-clause-made c =
    let lent = c.in_ok-texts.ensures in
    let front = rw (c.draws.ensures, c.in_ok-writer.ensures.0) at c.in_ok-drawn.ensures in
    exit_made _ _ _ (err_from_is_err_and c.from_residual-in_err-claims.result c.from_residual-in_err-claims.ensures.1)
    (members_refuse c.args.key.now c.args.drawn.now c.args.claims.now c.args.now c.args.footer.now c.args.assertion.now
    (record { fine = no_fault _ _ c.in_ok-writer.ensures.1 front.2; texts = lent.5 }) (members_view c.in_ok-members.members.entries) (rw lent.0 at c.in_ok-members.ensures)
    _ (rw (to_z-of_z _ _ c.ranges.now) at c.in_err-claims.ensures))

pub returns-in_err-claims-clause-whole : goal.returns-in_err-claims-clause-whole
returns-in_err-claims-clause-whole c = issue_whole c.args.key.now c.args.drawn.now c.args.claims.now c.args.now c.args.footer.now c.args.assertion.now
    (are_moments c.args.now c.ranges.now) _ (returns-in_err-claims-clause-made c)

pub returns-in_err-issue-clause-made : goal.returns-in_err-issue-clause-made
returns-in_err-issue-clause-made c =
    let lent = c.in_ok-texts.ensures in
    let front = rw (c.draws.ensures, c.in_ok-writer.ensures.0) at c.in_ok-drawn.ensures in
    let suit = suits Writers c.args.key.now c.args.assertion.now c.in_ok-writer.ensures.1 in
    let used = rw (c.in_ok-writer.ensures.0, lent.1, lent.2, lent.3, lent.4, front.0) at c.in_err-issue.ensures.answer in
    let answer = used.answer (writers_write _ suit.0) suit.1 in
    exit_made _ _ _ (err_from_is_err_and c.from_residual-in_err-issue.result c.from_residual-in_err-issue.ensures.1)
    (token_refused c.args.key.now c.args.drawn.now c.args.claims.now c.args.now c.args.footer.now c.args.assertion.now
    (record { fine = no_fault _ _ c.in_ok-writer.ensures.1 front.2; texts = lent.5 }) (members_view c.in_ok-members.members.entries) (rw lent.0 at c.in_ok-members.ensures)
    (held c.in_ok-claims.claims.builder.claims) (rw (to_z-of_z _ _ c.ranges.now) at c.in_ok-claims.ensures).1
    _ (is_declined _ _ _ _ _ _ (rw front.0 at front.1) answer))

pub returns-in_err-issue-clause-whole : goal.returns-in_err-issue-clause-whole
returns-in_err-issue-clause-whole c = issue_whole c.args.key.now c.args.drawn.now c.args.claims.now c.args.now c.args.footer.now c.args.assertion.now
    (are_moments c.args.now c.ranges.now) _ (returns-in_err-issue-clause-made c)

pub returns-clause-made : goal.returns-clause-made
returns-clause-made c =
    let lent = c.in_ok-texts.ensures in
    let front = rw (c.draws.ensures, c.in_ok-writer.ensures.0) at c.in_ok-drawn.ensures in
    let suit = suits Writers c.args.key.now c.args.assertion.now c.in_ok-writer.ensures.1 in
    let used = rw (c.in_ok-writer.ensures.0, lent.1, lent.2, lent.3, lent.4, front.0) at c.in_ok-issue.ensures.answer in
    let answer = used.answer (writers_write _ suit.0) suit.1 in
    token_made c.args.key.now c.args.drawn.now c.args.claims.now c.args.now c.args.footer.now c.args.assertion.now
    (record { fine = no_fault _ _ c.in_ok-writer.ensures.1 front.2; texts = lent.5 }) (members_view c.in_ok-members.members.entries) (rw lent.0 at c.in_ok-members.ensures)
    (held c.in_ok-claims.claims.builder.claims) (rw (to_z-of_z _ _ c.ranges.now) at c.in_ok-claims.ensures).1
    _ (is_written _ _ _ _ _ _ (rw front.0 at front.1) answer)

pub returns-clause-whole : goal.returns-clause-whole
returns-clause-whole c = λ taken has. tt
