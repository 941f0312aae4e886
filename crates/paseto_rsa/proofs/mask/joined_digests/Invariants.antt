use Rattle.std.proofs.Common.{◌≡◌, ◌*◌, length, take}
use Rattle.paseto_rsa.specs.Mask.{mgf1_blocks}
use Rattle.paseto_rsa.proofs.mask.joined_digests.Given as goal

abbrev pub invariant-digests : goal.invariant-digests
invariant-digests l = record {
  size : length l.octets ≡ 240;
  joined : take (48 * l.i) l.octets ≡ mgf1_blocks l.seed l.i;
}
