use Rattle.std.proofs.Common.{◌≡◌, drop}
use Rattle.paseto_keys.specs.Ring.{ring_of}
use Rattle.paseto_keys.proofs.ring.key_of.Given as goal

abbrev pub invariant-keys : goal.invariant-keys
invariant-keys l = ring_of l.kind l.version l.keys l.id ≡ ring_of l.kind l.version (drop l.key-index l.keys) l.id
