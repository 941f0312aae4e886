use Rattle.std.proofs.Common.{ℕ, Bool, slice_index}
use Rattle.rusty_paseto_primitives.specs.Aes.Planes.{bit}
use Rattle.rusty_paseto_primitives.proofs.AesPlanes.{xor-plane}
use Rattle.rusty_paseto_primitives.proofs.AesSteps.{doubled-planes}
use Rattle.rusty_paseto_primitives.proofs.aes.planes.doubled.Goals as goal

pub returns : goal.returns
returns c s bytes e =
    let p : ℕ → ℕ → ℕ → Bool = λ b i j. bit (slice_index (s j) i) b in
    rw (e, xor-plane (p 0) (p 7), xor-plane (p 2) (p 7), xor-plane (p 3) (p 7)) (doubled-planes s bytes)
