use Rattle.std.proofs.Common.{◌∙◌, Err, inr, refl, sym}
use Rattle.std.proofs.lemmas.Int.{to_z-of_z}
use Rattle.std.proofs.lemmas.Result.{err_from_is_err_and}
use Rattle.paseto_keys.specs.Ring.{wanted_of}
use Rattle.paseto_calls.specs.Admit.{demanded}
use Rattle.paseto_calls.specs.Parse.{expected_rules}
use Rattle.paseto_calls.specs.declared.fault.Fault.TheVariants.{Unparsed}
use Rattle.paseto_calls.proofs.AdmitByExits.{answer_made, long_told, unprepared_refuses}
use Rattle.paseto_calls.proofs.ParseLemmas.{expected_verdicts}
use Rattle.paseto_calls.proofs.Taken.{exit_made, fault_refuses, first_fault, no_fault, second_fault}
use Rattle.paseto_calls.proofs.AdmitByWhole.{admitting_by_apart}
use Rattle.paseto_calls.proofs.Whole.{whole_of}
use Rattle.paseto_calls.proofs.admit_by.admit_by.Goals as goal

pub returns-in_err-ring-clause-made : goal.returns-in_err-ring-clause-made
returns-in_err-ring-clause-made c =
    exit_made _ _ _ (err_from_is_err_and c.from_residual.result c.from_residual.ensures.1) (fault_refuses _ _ (first_fault _ _ _ c.in_err-ring.ensures))

pub returns-in_err-ring-clause-whole : goal.returns-in_err-ring-clause-whole
returns-in_err-ring-clause-whole c = whole_of _ (admitting_by_apart c.args.keys.now c.args.token.now c.args.expected.now c.args.now c.args.footer.now c.args.assertion.now c.args.options.now) _
    (returns-in_err-ring-clause-made c)

pub returns-in_err-check-clause-made : goal.returns-in_err-check-clause-made
returns-in_err-check-clause-made c =
    exit_made _ _ _ (err_from_is_err_and c.from_residual-in_err-check.result c.from_residual-in_err-check.ensures.1)
    (fault_refuses _ _ (inr (second_fault _ _ _ c.in_ok-ring.ensures.1 c.in_err-check.ensures)))

pub returns-in_err-check-clause-whole : goal.returns-in_err-check-clause-whole
returns-in_err-check-clause-whole c = whole_of _ (admitting_by_apart c.args.keys.now c.args.token.now c.args.expected.now c.args.now c.args.footer.now c.args.assertion.now c.args.options.now) _
    (returns-in_err-check-clause-made c)

pub returns-in_err-text-clause-made : goal.returns-in_err-text-clause-made
returns-in_err-text-clause-made c =
    exit_made _ _ _ (err_from_is_err_and c.from_residual-in_err-text.result c.from_residual-in_err-text.ensures.1)
    (unprepared_refuses c.args.keys.now c.args.token.now c.args.expected.now c.args.now c.args.footer.now c.args.assertion.now c.args.options.now _
    (no_fault _ _ c.in_ok-ring.ensures.1 c.in_ok-check.ensures) (rw (to_z-of_z _ _ c.ranges.now) at c.in_err-text.ensures.err))

pub returns-in_err-text-clause-whole : goal.returns-in_err-text-clause-whole
returns-in_err-text-clause-whole c = whole_of _ (admitting_by_apart c.args.keys.now c.args.token.now c.args.expected.now c.args.now c.args.footer.now c.args.assertion.now c.args.options.now) _
    (returns-in_err-text-clause-made c)

pub returns-then-has_longer_footer-clause-made : goal.returns-then-has_longer_footer-clause-made
returns-then-has_longer_footer-clause-made c =
    let prepared = rw (to_z-of_z _ _ c.ranges.now) at c.in_ok-text.ensures.ok in
    let held = prepared.1 in
    let parser = c.prepare.new.parser in
    rw c.too_long.ensures (long_told c.args.keys.now c.args.token.now c.args.expected.now c.args.now c.args.footer.now c.args.assertion.now c.args.options.now
    (record { fine = no_fault _ _ c.in_ok-ring.ensures.1 c.in_ok-check.ensures; texts = held.texts })
    (wanted_of parser.longest parser.footer parser.implicit_assertion
    (expected_rules held.members held.names parser.moment (demanded c.args.options.now).leeway))
    (record {
      members = held.members;
      names = held.names;
      moment = parser.moment;
      is_expected = held.is_expected;
      rules = λ key. refl;
      longest = held.longest_is;
      footer_is = held.footer_is;
      has_footer = held.has_footer;
      assertion_is = held.assertion_is;
      has_assertion = held.has_assertion;
    })
    (sym (rw (c.limit_of.ensures, prepared.0) at c.has_longer_footer.ensures) ∙ c.if-has_longer_footer.true))

pub returns-then-has_longer_footer-clause-whole : goal.returns-then-has_longer_footer-clause-whole
returns-then-has_longer_footer-clause-whole c = whole_of _ (admitting_by_apart c.args.keys.now c.args.token.now c.args.expected.now c.args.now c.args.footer.now c.args.assertion.now c.args.options.now) (Err (Unparsed c.too_long.result))
    (returns-then-has_longer_footer-clause-made c)

pub returns-clause-made : goal.returns-clause-made
returns-clause-made c =
    let prepared = rw (to_z-of_z _ _ c.ranges.now) at c.in_ok-text.ensures.ok in
    let held = prepared.1 in
    let parser = c.prepare.new.parser in
    let admitted = rw (c.deref.ensures.value, c.in_ok-ring.ensures.0, prepared.0) at c.admit_by_ring.ensures in
    answer_made c.args.keys.now c.args.token.now c.args.expected.now c.args.now c.args.footer.now c.args.assertion.now c.args.options.now
    (record { fine = no_fault _ _ c.in_ok-ring.ensures.1 c.in_ok-check.ensures; texts = held.texts })
    _
    (record {
      members = held.members;
      names = held.names;
      moment = parser.moment;
      is_expected = held.is_expected;
      rules = expected_verdicts _ parser.checks parser.moment parser.leeway _ held.members held.names held.leeway_is held.rules;
      longest = held.longest_is;
      footer_is = held.footer_is;
      has_footer = held.has_footer;
      assertion_is = held.assertion_is;
      has_assertion = held.has_assertion;
    })
    (sym (rw (c.limit_of.ensures, prepared.0) at c.has_longer_footer.ensures) ∙ c.if-has_longer_footer.false) c.admit_by_ring.result c.text_of.result admitted (c.text_of.ensures.ok, c.text_of.ensures.err)

pub returns-clause-whole : goal.returns-clause-whole
returns-clause-whole c = whole_of _ (admitting_by_apart c.args.keys.now c.args.token.now c.args.expected.now c.args.now c.args.footer.now c.args.assertion.now c.args.options.now) _
    (returns-clause-made c)
