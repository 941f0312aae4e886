use Rattle.std.proofs.Common.{◌≡◌, ℕ, ◌<◌, get_or, length}
use Rattle.std.specs.Prelude.{bit_xor}
use Rattle.paseto_rsa.proofs.mask.mixed.Given as goal

abbrev pub invariant-octets : goal.invariant-octets
invariant-octets l = record {
  size : length l.octets ≡ 207;
  done : (k : ℕ) → k < l.i → get_or l.octets k 0 ≡ bit_xor (get_or l.block k 0) (get_or l.mask k 0);
}
