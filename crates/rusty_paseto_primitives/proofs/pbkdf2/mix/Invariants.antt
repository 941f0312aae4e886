use Rattle.std.proofs.Common.{slice_index}
use Rattle.rusty_paseto_primitives.proofs.Xored.{IsXoredTo}
use Rattle.rusty_paseto_primitives.proofs.pbkdf2.mix.Given as goal

abbrev pub invariant-bytes : goal.invariant-bytes
invariant-bytes l = IsXoredTo (slice_index l.output) l.i l.initial.key l.key
