use Rattle.std.proofs.Common.{◌≡◌, ◌∙◌, IfErr, IfOk, ap, subst}
use Rattle.std.proofs.lemmas.Result.{IfOk-weaker}
use Rattle.clap.specs.Words.{App, HasKind, app_of, fault_of, is_simple, is_simple_and_free}
use Rattle.paseto_words.specs.CommandLine.{IsFoundIn, words_of}
use Rattle.paseto_words.proofs.Readings.{is_free_paseto, is_simple_paseto, refused_by, taken}
use Rattle.paseto_words.proofs.command_line.matches_of.Goals as goal

pub returns-clause-ok : goal.returns-clause-ok
returns-clause-ok c =
    let words = words_of c.args.words.now in
    let is = c.in_ok-command.ensures.0 in
    let made = c.try_get_matches_from_mut in
    subst (λ (a : App). IfOk made.result (IsFoundIn a words)) is
    (taken (app_of c.in_ok-command.command) words made.result (made.ensures.kinds (ap is_simple_and_free is ∙ is_free_paseto))
    (IfOk-weaker made.result _ _ (λ m has. (has.2 (ap is_simple is ∙ is_simple_paseto)).1) made.ensures.ok))

pub returns-clause-err : goal.returns-clause-err
returns-clause-err c =
    let words = words_of c.args.words.now in
    let is = c.in_ok-command.ensures.0 in
    let made = c.try_get_matches_from_mut in
    subst (λ (a : App). IfErr made.result (HasKind (fault_of a words))) is
    (refused_by (fault_of (app_of c.in_ok-command.command) words) made.result (made.ensures.kinds (ap is_simple_and_free is ∙ is_free_paseto)))
