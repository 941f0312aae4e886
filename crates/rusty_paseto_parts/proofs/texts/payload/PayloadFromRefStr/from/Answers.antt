use Rattle.std.proofs.Common.{rules}
use Rattle.rusty_paseto_parts.proofs.texts.payload.PayloadFromRefStr.from.Goals as goal

pub returns : goal.returns
returns c = search rules
