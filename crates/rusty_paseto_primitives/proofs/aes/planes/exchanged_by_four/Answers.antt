use Rattle.std.proofs.Common.{ap₂, List, ℕ}
use Rattle.rusty_paseto_primitives.specs.Aes.Planes.{back, byte, front, plane}
use Rattle.rusty_paseto_primitives.proofs.AesPlanes.{map_run-agree}
use Rattle.rusty_paseto_primitives.proofs.AesExchanges.{back_four, front_four}
use Rattle.rusty_paseto_primitives.proofs.aes.planes.exchanged_by_four.Goals as goal

pub returns : goal.returns
unfolding plane
returns c f g ea eb =
    rw (ea, eb) (ap₂ (λ (x y : List ℕ). (x, y))
    (map_run-agree _ (λ i. byte (front 4 f g i)) 0 16 (λ i low high. front_four f g i))
    (map_run-agree _ (λ i. byte (back 4 f g i)) 0 16 (λ i low high. back_four f g i)))
