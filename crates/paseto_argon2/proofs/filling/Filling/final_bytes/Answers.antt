use Rattle.std.proofs.Common.{◌≡◌, ℕ, ◌*◌, List, length, map, replicate, ◌∙◌, arith}
use Rattle.std.proofs.lemmas.List.{take_at}
use Rattle.paseto_argon2.specs.Block.{registers, zero_block}
use Rattle.paseto_argon2.specs.Filling.{Setting, after_passes, final_block}
use Rattle.paseto_argon2.specs.Settings.{setting_of}
use Rattle.paseto_argon2.proofs.Memory.{memory_of_one}
use Rattle.paseto_argon2.proofs.filling.Filling.final_bytes.Goals as goal

pub returns : goal.returns
unfolding final_block
returns c =
    let s : Setting = setting_of c.args.self.now in
    let empty : List (List ℕ) = replicate (s.lanes * (4 * s.segment)) zero_block in
    let began : c.deref_mut.result.now ≡ map registers empty = c.deref_mut.ensures.value
    ∙ memory_of_one _ _ _ zero_block c.block_count.result _ _ c.in_ok-resize.ensures.items c.new-memory.ensures.items c.new-memory.ensures.len
    c.zero_block.ensures c.block_count.ensures in
    let filled = c.fill.ensures empty began in
    let size : length c.fill.new.memory ≡ c.resize.new.self.len = omega (arith, c.fill.auto.memory, c.deref_mut.ensures.len) in
    let kept = c.deref.ensures.value ∙ take_at c.fill.new.memory _ c.resize.new.self.len size in
    c.block_bytes.ensures _ (c.last_blocks.ensures (after_passes s empty s.passes) (kept ∙ filled))
