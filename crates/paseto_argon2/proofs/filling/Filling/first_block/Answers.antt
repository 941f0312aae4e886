use Rattle.std.proofs.Common.{List, ℕ, ◌++◌, ◌∙◌, ap, sym}
use Rattle.std.proofs.lemmas.List.{append_assoc}
use Rattle.paseto_argon2.specs.Block.{block_of, registers}
use Rattle.paseto_argon2.specs.Filling.{first_block}
use Rattle.paseto_argon2.specs.VariableHash.{le32, variable_hash}
use Rattle.paseto_argon2.proofs.filling.Filling.first_block.Goals as goal

pub returns : goal.returns
unfolding first_block
returns c =
    let seed : List ℕ = c.args.self.now.seed in
    c.block_of.ensures
    ∙ ap (λ (bytes : List ℕ). registers (block_of bytes)) (c.variable_hash.ensures
    ∙ ap (λ (end : List ℕ). variable_hash 1024 (seed ++ end)) c.two_numbers-numbers.ensures
    ∙ ap (variable_hash 1024) (sym (append_assoc seed (le32 c.args.column) (le32 c.args.lane))))
