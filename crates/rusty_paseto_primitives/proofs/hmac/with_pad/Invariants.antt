use Rattle.std.proofs.Common.{◌≡◌, ◌++◌, take, drop}
use Rattle.rusty_paseto_primitives.specs.Hmac.{with_pad}
use Rattle.rusty_paseto_primitives.proofs.hmac.with_pad.Given as goal

abbrev pub invariant-bytes : goal.invariant-bytes
invariant-bytes l = l.byte-items ≡ with_pad l.pad (take l.byte-index l.fn.block) ++ drop l.byte-index l.fn.block
