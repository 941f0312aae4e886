use Rattle.paseto_words.specs.App.{top_app}
use Rattle.paseto_words.proofs.app.with_key_commands.Goals as goal

pub returns : goal.returns
returns c = c.with_subcommands.ensures top_app c.top.ensures
