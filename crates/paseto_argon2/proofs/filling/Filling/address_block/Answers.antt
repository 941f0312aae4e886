use Rattle.std.proofs.Common.{ℕ, ◌+◌, ◌*◌, List, ◌∷◌, replicate, refl}
use Rattle.paseto_argon2.specs.Block.{compressed, registers, zero_block}
use Rattle.paseto_argon2.specs.Filling.{address_block}
use Rattle.paseto_argon2.proofs.filling.Filling.address_block.Goals as goal

pub returns : goal.returns
unfolding address_block registers
returns c =
    let self = c.args.self.now in
    let at = c.args.at in
    let input : List ℕ = at.pass ∷ at.lane ∷ at.slice ∷ (self.lanes * (4 * self.segment)) ∷ self.passes ∷ 2 ∷ (c.args.k + 1) ∷ replicate 121 0 in
    c.compressed-2.ensures zero_block (compressed zero_block input) c.zero_block-zeros.ensures
    (c.compressed.ensures zero_block input c.zero_block-zeros.ensures (rw (c.zero_block-input.ensures, c.block_count.ensures) refl))
