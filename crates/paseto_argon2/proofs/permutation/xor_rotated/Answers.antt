use Rattle.std.proofs.Common.{bit_xor, refl}
use Rattle.paseto_argon2.proofs.permutation.xor_rotated.Goals as goal

pub returns : goal.returns
returns c f g ea eb = c.rotated.ensures (λ j. bit_xor (f j) (g j)) (rw (ea, eb) refl)
