use Rattle.std.proofs.lemmas.Result.{IfOk-weaker}
use Rattle.paseto_words.specs.App.{IsFor, key_apps, paseto_app, top_app, with_subcommands}
use Rattle.paseto_words.proofs.Adding.{also_named}
use Rattle.paseto_words.proofs.app.paseto.Goals as goal

pub returns : goal.returns
returns c =
    let all : IsFor paseto_app c.in_ok-with_subcommands.field-0 = c.in_ok-with_subcommands.ensures (with_subcommands top_app key_apps) c.in_ok-with_key_commands.ensures in
    IfOk-weaker c.bin_name.result _ _ (λ new h. also_named _ _ new all h.0) c.bin_name.ensures
