use Rattle.std.proofs.Common.{◌≡◌, drop, map, take}
use Rattle.paseto_calls.specs.AdmitBy.{key_in, keys_fault}
use Rattle.paseto_calls.proofs.admit_by.ring_of.Given as goal

-- the keys so far are in the ring, and none of them has a fault
abbrev pub invariant-loop-key : goal.invariant-loop-key
invariant-loop-key l = record {
  items : l.ring.items ≡ map key_in (take l.key-index l.keys);
  fault : keys_fault l.keys ≡ keys_fault (drop l.key-index l.keys);
}
