use Rattle.std.proofs.Common.{refl}
use Rattle.paseto_argon2.proofs.block.row_xored.Goals as goal

pub returns : goal.returns
returns c f g ea eb = rw (ea, eb) refl
