use Rattle.std.proofs.Common.{rules}
use Rattle.rusty_paseto_generic.proofs.parsers.times.Times.expires_at.Goals as goal

pub returns : goal.returns
returns c = search rules
