use Rattle.std.proofs.Common.{ℕ, bit_xor, arith}
use Rattle.std.proofs.lemmas.List.{get_or_default}
use Rattle.std.proofs.lemmas.List.Edits.{map_over_more}
use Rattle.rusty_paseto_primitives.proofs.hmac.with_pad.Goals as goal

pub bytes-preserved : goal.bytes-preserved
bytes-preserved c =
    map_over_more (λ (b : ℕ). bit_xor b c.args.pad) c.args.block c.bytes.byte-items c.bytes.byte-index _
    (omega arith) c.bytes.invariant (get_or_default c.bytes.byte-items c.bytes.byte-index 0 _ (omega arith))
