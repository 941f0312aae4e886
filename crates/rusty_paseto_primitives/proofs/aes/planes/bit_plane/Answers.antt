use Rattle.std.proofs.Common.{ℕ, ◌*◌, ◌/◌, ◌%◌, ◌^◌, ◌<◌, bit_and}
use Rattle.rusty_paseto_primitives.specs.Aes.Planes.{byte, plane}
use Rattle.rusty_paseto_primitives.proofs.AesPlanes.{map_run-agree, spread_bit}
use Rattle.rusty_paseto_primitives.proofs.aes.planes.bit_plane.Goals as goal

pub returns : goal.returns
unfolding plane
returns c f e =
    let b : ℕ = c.args.b in
    let low : b < 8 = c.requires in
    rw e (map_run-agree (λ i. bit_and (byte (f i) / 2 ^ b) 1 * 255 % 256) (λ i. byte (λ j. f i b)) 0 16 (λ i l h. spread_bit (f i) b low))
