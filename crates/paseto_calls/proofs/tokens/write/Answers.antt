use Rattle.std.proofs.Common.{inr}
use Rattle.std.proofs.lemmas.Result.{err_from_is_err_and}
use Rattle.paseto_calls.proofs.Taken.{exit_made, fault_refuses, first_fault, no_fault, second_fault, suits, text_refuses}
use Rattle.paseto_calls.proofs.TokenExits.{is_declined, is_written, write_refuses}
use Rattle.paseto_calls.proofs.TokenWhole.{write_whole}
use Rattle.paseto_calls.proofs.tokens.write.Goals as goal

pub returns-in_err-writer-clause-made : goal.returns-in_err-writer-clause-made
returns-in_err-writer-clause-made c =
    exit_made _ _ _ (err_from_is_err_and c.from_residual.result c.from_residual.ensures.1) (fault_refuses _ _ (first_fault _ _ _ c.in_err-writer.ensures))

pub returns-in_err-writer-clause-whole : goal.returns-in_err-writer-clause-whole
returns-in_err-writer-clause-whole c = write_whole c.args.key.now c.args.drawn.now c.args.footer.now c.args.assertion.now c.args.text.now c.args.wanted _ (returns-in_err-writer-clause-made c)

pub returns-in_err-drawn-clause-made : goal.returns-in_err-drawn-clause-made
returns-in_err-drawn-clause-made c =
    exit_made _ _ _ (err_from_is_err_and c.from_residual-in_err-drawn.result c.from_residual-in_err-drawn.ensures.1)
    (fault_refuses _ _ (inr (second_fault _ _ _ c.in_ok-writer.ensures.1 (rw (c.draws.ensures, c.in_ok-writer.ensures.0) at c.in_err-drawn.ensures))))

pub returns-in_err-drawn-clause-whole : goal.returns-in_err-drawn-clause-whole
returns-in_err-drawn-clause-whole c = write_whole c.args.key.now c.args.drawn.now c.args.footer.now c.args.assertion.now c.args.text.now c.args.wanted _ (returns-in_err-drawn-clause-made c)

pub returns-in_err-texts-clause-made : goal.returns-in_err-texts-clause-made
returns-in_err-texts-clause-made c =
    let enough = (rw (c.draws.ensures, c.in_ok-writer.ensures.0) at c.in_ok-drawn.ensures).2 in
    exit_made _ _ _ (err_from_is_err_and c.from_residual-in_err-texts.result c.from_residual-in_err-texts.ensures.1)
    (text_refuses _ _ (no_fault _ _ c.in_ok-writer.ensures.1 enough) c.in_err-texts.ensures)

pub returns-in_err-texts-clause-whole : goal.returns-in_err-texts-clause-whole
returns-in_err-texts-clause-whole c = write_whole c.args.key.now c.args.drawn.now c.args.footer.now c.args.assertion.now c.args.text.now c.args.wanted _ (returns-in_err-texts-clause-made c)

pub returns-in_err-write-clause-made : goal.returns-in_err-write-clause-made
returns-in_err-write-clause-made c =
    let lent = c.in_ok-texts.ensures in
    let front = rw (c.draws.ensures, c.in_ok-writer.ensures.0) at c.in_ok-drawn.ensures in
    let suit = suits c.args.wanted c.args.key.now c.args.assertion.now c.in_ok-writer.ensures.1 in
    let used = rw (c.in_ok-writer.ensures.0, lent.0, lent.1, lent.2, lent.3, lent.4, front.0) at c.in_err-write.ensures in
    let answer = used.answer (c.requires _ suit.0) suit.1 in
    exit_made _ _ _ (err_from_is_err_and c.from_residual-in_err-write.result c.from_residual-in_err-write.ensures.1)
    (write_refuses c.args.wanted c.args.key.now c.args.drawn.now c.args.text.now c.args.footer.now c.args.assertion.now
    (record { fine = no_fault _ _ c.in_ok-writer.ensures.1 front.2; texts = lent.5 }) _
    (is_declined _ _ _ _ _ _ (rw front.0 at front.1) answer))

pub returns-in_err-write-clause-whole : goal.returns-in_err-write-clause-whole
returns-in_err-write-clause-whole c = write_whole c.args.key.now c.args.drawn.now c.args.footer.now c.args.assertion.now c.args.text.now c.args.wanted _ (returns-in_err-write-clause-made c)

pub returns-clause-made : goal.returns-clause-made
returns-clause-made c =
    let lent = c.in_ok-texts.ensures in
    let front = rw (c.draws.ensures, c.in_ok-writer.ensures.0) at c.in_ok-drawn.ensures in
    let suit = suits c.args.wanted c.args.key.now c.args.assertion.now c.in_ok-writer.ensures.1 in
    let used = rw (c.in_ok-writer.ensures.0, lent.0, lent.1, lent.2, lent.3, lent.4, front.0) at c.in_ok-write.ensures in
    let answer = used.answer (c.requires _ suit.0) suit.1 in
    record {
      taken = record { fine = no_fault _ _ c.in_ok-writer.ensures.1 front.2; texts = lent.5 };
      makes = is_written _ _ _ _ _ _ (rw front.0 at front.1) answer;
    }

pub returns-clause-whole : goal.returns-clause-whole
returns-clause-whole c = λ taken has. tt
