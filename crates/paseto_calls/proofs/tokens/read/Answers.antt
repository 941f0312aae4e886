use Rattle.std.proofs.lemmas.Result.{err_from_is_err_and}
use Rattle.paseto_calls.proofs.Taken.{exit_made, exit_whole, fault_only, fault_refuses, suits, text_only, text_refuses}
use Rattle.paseto_calls.proofs.TokenExits.{is_read, is_refused, is_refused_memory, read_refuses}
use Rattle.paseto_calls.proofs.tokens.read.Goals as goal

pub returns-in_err-reader-clause-made : goal.returns-in_err-reader-clause-made
returns-in_err-reader-clause-made c =
    exit_made _ _ _ (err_from_is_err_and c.from_residual.result c.from_residual.ensures.1) (fault_refuses _ _ c.in_err-reader.ensures)

pub returns-in_err-reader-clause-whole : goal.returns-in_err-reader-clause-whole
returns-in_err-reader-clause-whole c =
    exit_whole _ _ _ (err_from_is_err_and c.from_residual.result c.from_residual.ensures.1) (λ text makes. fault_only _ _ text c.in_err-reader.ensures makes)

pub returns-in_err-texts-clause-made : goal.returns-in_err-texts-clause-made
returns-in_err-texts-clause-made c =
    exit_made _ _ _ (err_from_is_err_and c.from_residual-in_err-texts.result c.from_residual-in_err-texts.ensures.1)
    (text_refuses _ _ c.in_ok-reader.ensures.1 c.in_err-texts.ensures)

pub returns-in_err-texts-clause-whole : goal.returns-in_err-texts-clause-whole
returns-in_err-texts-clause-whole c =
    exit_whole _ _ _ (err_from_is_err_and c.from_residual-in_err-texts.result c.from_residual-in_err-texts.ensures.1)
    (λ text makes. text_only _ _ text c.in_err-texts.ensures makes)

pub returns-in_err-read-clause-made : goal.returns-in_err-read-clause-made
returns-in_err-read-clause-made c =
    let lent = c.in_ok-texts.ensures in
    let suit = suits c.args.wanted c.args.key.now c.args.assertion.now c.in_ok-reader.ensures.1 in
    let used = rw (c.in_ok-reader.ensures.0, lent.0, lent.1, lent.3, lent.4) at c.in_err-read.ensures in
    let answer = used.answer (c.requires _ suit.0) suit.1 in
    exit_made _ _ _ (err_from_is_err_and c.from_residual-in_err-read.result c.from_residual-in_err-read.ensures.1)
    (read_refuses c.args.wanted c.args.key.now c.args.token.now c.args.footer.now c.args.assertion.now
    (record { fine = c.in_ok-reader.ensures.1; texts = lent.5 }) _ (is_refused _ _ _ answer))

pub returns-in_err-read-clause-whole : goal.returns-in_err-read-clause-whole
returns-in_err-read-clause-whole c =
    let lent = c.in_ok-texts.ensures in
    let suit = suits c.args.wanted c.args.key.now c.args.assertion.now c.in_ok-reader.ensures.1 in
    let used = rw (c.in_ok-reader.ensures.0, lent.0, lent.1, lent.3, lent.4) at c.in_err-read.ensures in
    let answer = used.answer (c.requires _ suit.0) suit.1 in
    exit_whole _ _ _ (err_from_is_err_and c.from_residual-in_err-read.result c.from_residual-in_err-read.ensures.1)
    (λ text makes. is_refused_memory _ _ _ text answer makes.makes)

pub returns-clause-made : goal.returns-clause-made
returns-clause-made c =
    let lent = c.in_ok-texts.ensures in
    let suit = suits c.args.wanted c.args.key.now c.args.assertion.now c.in_ok-reader.ensures.1 in
    let used = rw (c.in_ok-reader.ensures.0, lent.0, lent.1, lent.3, lent.4) at c.in_ok-read.ensures in
    let answer = used.answer (c.requires _ suit.0) suit.1 in
    record { taken = record { fine = c.in_ok-reader.ensures.1; texts = lent.5 }; makes = is_read _ _ _ answer }
