use Rattle.std.proofs.Common.{ℕ, List, ◌++◌, length, ap}
use Rattle.std.proofs.lemmas.List.{drop-replicate}
use Rattle.rusty_paseto_primitives.proofs.blake2.block.zero_padded.Goals as goal

pub returns : goal.returns
returns c =
    let bytes = c.args.bytes.now in
    let zero_byte : ℕ = 0 in
    rw c.copy_from_slice.ensures.after (ap (λ (zeros : List ℕ). bytes ++ zeros) (drop-replicate (length bytes) 128 zero_byte))
