use Rattle.std.proofs.Common.{◌∙◌, ap}
use Rattle.std.specs.Str.{trim}
use Rattle.paseto.proofs.NamedKeys.{known_told, unknown_told}
use Rattle.paseto.proofs.named.is_unknown.Goals as goal

pub returns-in-Ok-named_in : goal.returns-in-Ok-named_in
returns-in-Ok-named_in c =
    known_told c.args.keys.now c.args.input.now c.trim.result.now c.in-Ok.ensures.cases.1 (c.trim.ensures.trim ∙ ap trim c.in-Ok.ensures.cases.0)
    c.in-Ok-named_in.ensures.unknown

pub returns : goal.returns
returns c =
    unknown_told c.args.keys.now c.args.input.now c.trim.result.now c.in-Ok.ensures.cases.1 (c.trim.ensures.trim ∙ ap trim c.in-Ok.ensures.cases.0)
    c.in-Err.error c.says_unknown.result c.in-Err.ensures.none c.in-Err.ensures.unknown c.says_unknown.ensures
