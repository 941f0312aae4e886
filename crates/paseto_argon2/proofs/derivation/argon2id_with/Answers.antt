use Rattle.std.proofs.Common.{ℕ, List, length, ap, ◌∙◌, rules}
use Rattle.std.proofs.lemmas.List.{append-nil}
use Rattle.paseto_argon2.specs.Block.{block_bytes}
use Rattle.paseto_argon2.specs.Derivation.{argon2id, setting}
use Rattle.paseto_argon2.specs.Filling.{Setting, final_block}
use Rattle.paseto_argon2.specs.VariableHash.{variable_hash}
use Rattle.paseto_argon2.proofs.derivation.argon2id_with.Goals as goal

pub returns-clause-ok : goal.returns-clause-ok
unfolding argon2id
returns-clause-ok c =
    let t : ℕ = length c.args.output.now in (
      search rules,
      c.variable_hash.ensures
          ∙ ap (variable_hash t) (append-nil c.in_ok-bytes.bytes ∙ c.in_ok-bytes.ensures ∙ ap (λ (s : Setting). block_bytes (final_block s)) c.filling_of-filling.ensures
          ∙ ap (λ (h : List ℕ). block_bytes (final_block (setting h c.args.parameters))) c.seed-seed.ensures),
    )
