use Rattle.std.proofs.Common.{length}
use Rattle.rusty_paseto_primitives.specs.Hkdf.{expansion_block}
use Rattle.rusty_paseto_primitives.proofs.JoinedBlocks.{IsFilled}
use Rattle.rusty_paseto_primitives.proofs.hkdf.hkdf_sha384_expand.Given as goal

abbrev pub invariant-fill : goal.invariant-fill
invariant-fill l = IsFilled (expansion_block l.prk l.info) (length l.fn.out) l.out l.i
