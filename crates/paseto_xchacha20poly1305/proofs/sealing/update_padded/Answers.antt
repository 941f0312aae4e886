use Rattle.std.proofs.Common.{◌≡◌, ℕ, ◌-◌, ◌%◌, List, ◌++◌, length, replicate, take, ap, ◌∙◌, arith}
use Rattle.std.proofs.lemmas.List.{append_assoc, take-replicate}
use Rattle.paseto_xchacha20poly1305.proofs.sealing.update_padded.Goals as goal

pub returns : goal.returns
returns c = λ key message held.
    let bytes = c.args.bytes.now in
    let room : ℕ = (16 - length bytes % 16) % 16 in
    let zero_byte : ℕ = 0 in
    let zeros : take room (replicate 16 zero_byte) ≡ replicate room zero_byte = take-replicate room 16 zero_byte (omega arith) in
    let whole : message ++ bytes ++ take room (replicate 16 zero_byte) ≡ message ++ (bytes ++ replicate room zero_byte) =
    append_assoc message bytes _ ∙ ap (λ (z : List ℕ). message ++ (bytes ++ z)) zeros in
    rw whole at (c.update-2.ensures key (message ++ bytes) (c.update.ensures key message held))
