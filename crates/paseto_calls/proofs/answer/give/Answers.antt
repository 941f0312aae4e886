use Rattle.std.proofs.Common.{rules}
use Rattle.paseto_calls.proofs.answer.give.Goals as goal

pub returns-then-room-length : goal.returns-then-room-length
returns-then-room-length c = search rules
