use Rattle.std.proofs.Common.{string_bytes}
use Rattle.serde_json.specs.View.{view}
use Rattle.paseto.proofs.Lines.{unlike_told}
use Rattle.paseto.proofs.commands.claim_line.unlike_line.Goals as goal

pub returns : goal.returns
returns c =
    unlike_told c.args.name.now (view c.args.found.now) (view c.args.wanted.now) (string_bytes c.in_ok-found.found) (string_bytes c.in_ok-wanted.wanted) c.format.result
    c.one_line_of.result c.in_ok-found.ensures.text c.in_ok-wanted.ensures.text c.format.ensures.ok c.one_line_of.ensures
