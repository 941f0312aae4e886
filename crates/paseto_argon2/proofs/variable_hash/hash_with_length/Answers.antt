use Rattle.std.proofs.Common.{ℕ, List, [], ◌++◌, length, ap, ◌∙◌}
use Rattle.std.proofs.lemmas.List.{append_assoc}
use Rattle.paseto_argon2.specs.VariableHash.{hash, le32}
use Rattle.paseto_argon2.proofs.variable_hash.hash_with_length.Goals as goal

pub returns : goal.returns
returns c =
    let message = c.args.message.now in
    let end = c.args.end.now in
    let whole = c.update-3.ensures.message [] _ _ (c.update-2.ensures.message [] _ _ (c.update.ensures.message [] _ [] c.new-hasher.ensures.message)) in
    c.finalize_into.ensures [] _ _ whole
    ∙ ap (λ (n : List ℕ). hash (length c.args.output.now) (n ++ message ++ end)) c.to_le_bytes.ensures
    ∙ ap (hash (length c.args.output.now)) (append_assoc (le32 c.args.number) message end)
