use Rattle.std.proofs.Common.{ℕ, List, ◌-◌, ◌*◌, ◌++◌, length, ap, sym, ◌∙◌, arith}
use Rattle.paseto_argon2.specs.VariableHash.{front_count, fronts, hash, linked}
use Rattle.paseto_argon2.proofs.Links.{variable_hash-long, variable_hash-short}
use Rattle.paseto_argon2.proofs.variable_hash.variable_hash.Goals as goal

pub returns-then-output-le-HASH_LEN : goal.returns-then-output-le-HASH_LEN
returns-then-output-le-HASH_LEN c =
    c.hash_with_length.ensures ∙ sym (variable_hash-short (length c.args.output.now) (c.args.message.now ++ c.args.end.now) (omega arith))

pub returns : goal.returns
returns c =
    let t : ℕ = length c.args.output.now in
    let r : ℕ = front_count t in
    c.long_output.ensures
    ∙ ap (λ (v : List ℕ). fronts v r ++ hash (t - 32 * r) (linked v (r - 1))) c.hash_with_length-2.ensures
    ∙ sym (variable_hash-long t (c.args.message.now ++ c.args.end.now) (omega arith))
