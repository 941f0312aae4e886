use Rattle.std.proofs.Common.{rules}
use Rattle.rusty_paseto_core.proofs.public.versions.V2PublicSuite.has_private_length.Goals as goal

pub returns : goal.returns
returns c = search rules
