use Rattle.paseto_keys.specs.AnyKey.{parts_of}
use Rattle.paseto_tasks.specs.Error.{nothing}
use Rattle.paseto_tasks.specs.Id.{HasId, HasNoId}
use Rattle.paseto_tasks.proofs.Outputs.{line_makes}
use Rattle.paseto_tasks.proofs.id.id.Goals as goal

pub returns : goal.returns
returns c =
    line_makes (HasId (parts_of c.args.key.now)) (HasNoId (parts_of c.args.key.now)) nothing _ c.with_line_feed.result c.with_line_feed.ensures.line
    c.with_line_feed.ensures.only_memory (λ line is. (c.in_ok-id.field-0, c.in_ok-id.ensures, is))
