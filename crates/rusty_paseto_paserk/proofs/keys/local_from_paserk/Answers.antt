use Rattle.std.proofs.Common.{rules}
use Rattle.rusty_paseto_paserk.proofs.keys.local_from_paserk.Goals as goal

pub from_slice-requires : goal.from_slice-requires
from_slice-requires g c = search rules

pub returns : goal.returns
returns g c = search rules
