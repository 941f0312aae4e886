use Rattle.std.proofs.Common.{rules, ◌≡◌, ◌∙◌, sym, subst}
use Rattle.std.proofs.lemmas.Result.{IfErr-weaker, IfOk-weaker}
use Rattle.clap.specs.Words.{HasKind, Kinds, subcommand_rows_of}
use Rattle.paseto_words.specs.App.{paseto_app}
use Rattle.paseto_words.specs.CommandLine.{faults_by, words_of}
use Rattle.paseto_words.proofs.Readings.{asked_is, clap_fault, own_is}
use Rattle.paseto_words.proofs.command_line.parse.Goals as goal

pub returns-in_err-matches-clause-err : goal.returns-in_err-matches-clause-err
returns-in_err-matches-clause-err c =
    let words = words_of c.args.words.now in
    let e = c.in_err-matches.field-0.0 in
    let all : HasKind (faults_by paseto_app words) e = clap_fault paseto_app words e c.in_err-matches.ensures.err in
    search (rules, all)

pub returns-clause-ok : goal.returns-clause-ok
returns-clause-ok c =
    let words = words_of c.args.words.now in
    let found = c.in_ok-matches.ensures.ok in
    IfOk-weaker c.action_of.result _ _ (λ action is. asked_is paseto_app words (subcommand_rows_of c.in_ok-matches.matches) _ found.0 found.1 (sym is))
    c.action_of.ensures.ok

pub returns-clause-err : goal.returns-clause-err
returns-clause-err c =
    let words = words_of c.args.words.now in
    let found = c.in_ok-matches.ensures.ok in
    IfErr-weaker c.action_of.result _ _ (λ e is. subst (λ (ks : Kinds). HasKind ks e)
    (own_is paseto_app words (subcommand_rows_of c.in_ok-matches.matches) found.0 found.1) is) c.action_of.ensures.err
