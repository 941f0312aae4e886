use Rattle.std.proofs.Common.{◌∙◌, ap, true}
use Rattle.clap.specs.Simple.{app_of_fields, on_top}
use Rattle.paseto_words.proofs.Adding.{globals}
use Rattle.paseto_words.proofs.app.top.Goals as goal

pub returns : goal.returns
returns c =
    let version = ap app_of_fields c.version.ensures ∙ ap (on_top (λ s. record s { has_version = true })) c.named.ensures.0 in
    let needing = ap app_of_fields c.subcommand_required.ensures ∙ ap (on_top (λ s. record s { subcommand_required = true })) version in (
      ap app_of_fields c.arg_required_else_help.ensures ∙ ap (on_top (λ s. record s { arg_required_else_help = true })) needing,
      globals c.arg_required_else_help.ensures ∙ globals c.subcommand_required.ensures ∙ globals c.version.ensures ∙ c.named.ensures.1,
    )
