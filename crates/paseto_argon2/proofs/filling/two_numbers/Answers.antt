use Rattle.std.proofs.Common.{refl}
use Rattle.paseto_argon2.proofs.filling.two_numbers.Goals as goal

pub returns : goal.returns
returns c = rw (c.to_le_bytes-a.ensures, c.to_le_bytes-b.ensures) refl
