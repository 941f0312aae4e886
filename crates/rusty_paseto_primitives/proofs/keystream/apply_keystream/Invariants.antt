use Rattle.std.proofs.Common.{slice_index}
use Rattle.rusty_paseto_primitives.proofs.Xored.{IsXoredTo}
use Rattle.rusty_paseto_primitives.proofs.keystream.apply_keystream.Given as goal

abbrev pub invariant-bytes : goal.invariant-bytes
invariant-bytes l = IsXoredTo (slice_index l.keystream) l.i l.initial.data l.data
