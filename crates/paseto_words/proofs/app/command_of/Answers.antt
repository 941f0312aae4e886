use Rattle.std.proofs.Common.{refl}
use Rattle.clap.specs.Words.{new_app}
use Rattle.paseto_words.specs.App.{IsFor}
use Rattle.paseto_words.proofs.Adding.{as_before}
use Rattle.paseto_words.proofs.app.command_of.Goals as goal

pub returns : goal.returns
returns c =
    let name = c.args.subcommand.now.name.now in
    let named : IsFor (new_app name) c.new.result = (c.new.ensures.app, c.new.ensures.local) in
    let with_about = as_before _ _ c.about.result _ named c.about.ensures refl refl in
    let start = as_before _ _ c.after_help-command.result _ with_about c.after_help-command.ensures refl refl in
    c.with_parameters.ensures (new_app name) (c.with_usage.ensures (new_app name) start)
