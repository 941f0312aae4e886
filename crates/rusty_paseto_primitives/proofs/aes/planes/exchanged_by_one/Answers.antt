use Rattle.std.proofs.Common.{ap₂, List, ℕ}
use Rattle.rusty_paseto_primitives.specs.Aes.Planes.{back, byte, front, plane}
use Rattle.rusty_paseto_primitives.proofs.AesPlanes.{map_run-agree}
use Rattle.rusty_paseto_primitives.proofs.AesExchanges.{back_one, front_one}
use Rattle.rusty_paseto_primitives.proofs.aes.planes.exchanged_by_one.Goals as goal

pub returns : goal.returns
unfolding plane
returns c f g ea eb =
    rw (ea, eb) (ap₂ (λ (x y : List ℕ). (x, y))
    (map_run-agree _ (λ i. byte (front 1 f g i)) 0 16 (λ i low high. front_one f g i))
    (map_run-agree _ (λ i. byte (back 1 f g i)) 0 16 (λ i low high. back_one f g i)))
