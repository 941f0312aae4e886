use Rattle.std.proofs.Common.{◌≡◌, ◌∙◌, sym, ap, option_map}
use Rattle.std.proofs.lemmas.Result.{IfOk-weaker}
use Rattle.clap.specs.Words.{found_of, rows_of}
use Rattle.paseto_words.specs.Reading.{asked_in}
use Rattle.paseto_words.proofs.Readings.{asked_of}
use Rattle.paseto_words.proofs.reading.found.Goals as goal

pub returns : goal.returns
returns c =
    let is = c.subcommand.ensures in
    let same = asked_of c.args.matches.now c.in-Some.name.now (rows_of (found_of c.in-Some.inner.now))
    (sym is.name ∙ ap (option_map (λ p. p.0.now)) c.in-Some.is) (sym is.rows ∙ ap (option_map (λ p. rows_of (found_of p.1.now))) c.in-Some.is) in
    IfOk-weaker c.action_of.result _ _ (λ action is. is ∙ sym same) c.action_of.ensures
