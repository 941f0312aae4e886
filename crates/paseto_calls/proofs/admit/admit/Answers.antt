use Rattle.std.proofs.Common.{◌∙◌, inr, sym}
use Rattle.std.proofs.lemmas.Int.{to_z-of_z}
use Rattle.std.proofs.lemmas.Result.{err_from_is_err_and}
use Rattle.paseto_calls.proofs.AdmitExits.{answer_made, answer_whole, long_footer_told, long_footer_only, unprepared_only, unprepared_refuses}
use Rattle.paseto_calls.proofs.ParseLemmas.{expected_answer}
use Rattle.paseto_calls.specs.declared.wanted.Wanted.TheVariants.{Readers}
use Rattle.paseto_calls.proofs.Taken.{exit_made, exit_whole, fault_only, fault_refuses, first_fault, no_fault, readers_read, second_fault, suits}
use Rattle.paseto_calls.proofs.admit.admit.Goals as goal

pub returns-in_err-reader-clause-made : goal.returns-in_err-reader-clause-made
returns-in_err-reader-clause-made c =
    exit_made _ _ _ (err_from_is_err_and c.from_residual.result c.from_residual.ensures.1)
    (fault_refuses _ _ (first_fault _ _ _ c.in_err-reader.ensures))

pub returns-in_err-reader-clause-whole : goal.returns-in_err-reader-clause-whole
returns-in_err-reader-clause-whole c =
    exit_whole _ _ _ (err_from_is_err_and c.from_residual.result c.from_residual.ensures.1)
    (λ text makes. fault_only _ _ text (first_fault _ _ _ c.in_err-reader.ensures) makes)

pub returns-in_err-check-clause-made : goal.returns-in_err-check-clause-made
returns-in_err-check-clause-made c =
    exit_made _ _ _ (err_from_is_err_and c.from_residual-in_err-check.result c.from_residual-in_err-check.ensures.1)
    (fault_refuses _ _ (inr (second_fault _ _ _ c.in_ok-reader.ensures.1 c.in_err-check.ensures)))

pub returns-in_err-check-clause-whole : goal.returns-in_err-check-clause-whole
returns-in_err-check-clause-whole c =
    exit_whole _ _ _ (err_from_is_err_and c.from_residual-in_err-check.result c.from_residual-in_err-check.ensures.1)
    (λ text makes. fault_only _ _ text (inr (second_fault _ _ _ c.in_ok-reader.ensures.1 c.in_err-check.ensures)) makes)

pub returns-in_err-text-clause-made : goal.returns-in_err-text-clause-made
returns-in_err-text-clause-made c =
    exit_made _ _ _ (err_from_is_err_and c.from_residual-in_err-text.result c.from_residual-in_err-text.ensures.1)
    (unprepared_refuses c.args.key.now c.args.token.now c.args.expected.now c.args.now c.args.footer.now c.args.assertion.now c.args.options.now _
    (no_fault _ _ c.in_ok-reader.ensures.1 c.in_ok-check.ensures) (rw (to_z-of_z _ _ c.ranges.now) at c.in_err-text.ensures.err))

pub returns-in_err-text-clause-whole : goal.returns-in_err-text-clause-whole
returns-in_err-text-clause-whole c =
    exit_whole _ _ _ (err_from_is_err_and c.from_residual-in_err-text.result c.from_residual-in_err-text.ensures.1)
    (λ text makes. unprepared_only c.args.key.now c.args.token.now c.args.expected.now c.args.now c.args.footer.now c.args.assertion.now c.args.options.now _
    text (rw (to_z-of_z _ _ c.ranges.now) at c.in_err-text.ensures.err) makes)

pub returns-then-has_longer_footer-clause-made : goal.returns-then-has_longer_footer-clause-made
returns-then-has_longer_footer-clause-made c =
    let prepared = rw (to_z-of_z _ _ c.ranges.now) at c.in_ok-text.ensures.ok in
    let held = prepared.1 in
    rw c.too_long.ensures (long_footer_told c.args.key.now c.args.token.now c.args.expected.now c.args.now c.args.footer.now c.args.assertion.now c.args.options.now
    (record { fine = no_fault _ _ c.in_ok-reader.ensures.1 c.in_ok-check.ensures; texts = held.texts }) held.members held.names c.prepare.new.parser.moment held.is_expected
    (sym (rw (c.limit_of.ensures, prepared.0) at c.has_longer_footer.ensures) ∙ c.if-has_longer_footer.true))

pub returns-then-has_longer_footer-clause-whole : goal.returns-then-has_longer_footer-clause-whole
returns-then-has_longer_footer-clause-whole c = λ text makes.
    let prepared = rw (to_z-of_z _ _ c.ranges.now) at c.in_ok-text.ensures.ok in
    absurd (long_footer_only c.args.key.now c.args.token.now c.args.expected.now c.args.now c.args.footer.now c.args.assertion.now c.args.options.now
    (sym (rw (c.limit_of.ensures, prepared.0) at c.has_longer_footer.ensures) ∙ c.if-has_longer_footer.true) text makes)

pub returns-clause-made : goal.returns-clause-made
returns-clause-made c =
    let prepared = rw (to_z-of_z _ _ c.ranges.now) at c.in_ok-text.ensures.ok in
    let held = prepared.1 in
    let parser = c.prepare.new.parser in
    let suit = suits Readers c.args.key.now c.args.assertion.now c.in_ok-reader.ensures.1 in
    let used = rw (c.in_ok-reader.ensures.0, prepared.0, held.footer_is, held.assertion_is, held.has_assertion, held.longest_is) at c.admit.ensures in
    let admits = used.answer (readers_read _ suit.0) suit.1 in
    let within = expected_answer _ parser.checks parser.moment parser.leeway held.members held.names _ _ _ admits.0 held.rules admits.2 in
    answer_made c.args.key.now c.args.token.now c.args.expected.now c.args.now c.args.footer.now c.args.assertion.now c.args.options.now
    (record { fine = no_fault _ _ c.in_ok-reader.ensures.1 c.in_ok-check.ensures; texts = held.texts }) held.members held.names parser.moment held.is_expected
    (sym (rw (c.limit_of.ensures, prepared.0) at c.has_longer_footer.ensures) ∙ c.if-has_longer_footer.false) c.admit.result admits.0 c.text_of.result admits.1
    (rw held.leeway_is at within) (c.text_of.ensures.ok, c.text_of.ensures.err)

pub returns-clause-whole : goal.returns-clause-whole
returns-clause-whole c =
    let prepared = rw (to_z-of_z _ _ c.ranges.now) at c.in_ok-text.ensures.ok in
    let held = prepared.1 in
    let parser = c.prepare.new.parser in
    let suit = suits Readers c.args.key.now c.args.assertion.now c.in_ok-reader.ensures.1 in
    let used = rw (c.in_ok-reader.ensures.0, prepared.0, held.footer_is, held.assertion_is, held.has_assertion, held.longest_is) at c.admit.ensures in
    let admits = used.answer (readers_read _ suit.0) suit.1 in
    let within = expected_answer _ parser.checks parser.moment parser.leeway held.members held.names _ _ _ admits.0 held.rules admits.2 in
    answer_whole c.args.key.now c.args.token.now c.args.expected.now c.args.now c.args.footer.now c.args.assertion.now c.args.options.now
    (record { fine = no_fault _ _ c.in_ok-reader.ensures.1 c.in_ok-check.ensures; texts = held.texts }) held.members held.names parser.moment held.is_expected
    (sym (rw (c.limit_of.ensures, prepared.0) at c.has_longer_footer.ensures) ∙ c.if-has_longer_footer.false) c.admit.result admits.0 c.text_of.result admits.1
    (rw held.leeway_is at within) (c.text_of.ensures.ok, c.text_of.ensures.err)
