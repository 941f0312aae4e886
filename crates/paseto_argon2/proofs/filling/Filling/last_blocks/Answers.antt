use Rattle.std.proofs.Common.{◌≡◌, ℕ, ◌-◌, [], slice_index_or, ap, ◌∙◌, arith}
use Rattle.paseto_argon2.specs.Block.{registers, xored}
use Rattle.paseto_argon2.specs.Filling.{Setting, last_blocks, place}
use Rattle.paseto_argon2.specs.Settings.{setting_of}
use Rattle.paseto_argon2.proofs.Filled.{last_more}
use Rattle.paseto_argon2.proofs.Memory.{block_read}
use Rattle.paseto_argon2.proofs.filling.Filling.last_blocks.Goals as goal

pub lanes-init : goal.lanes-init
unfolding last_blocks
lanes-init c m e = c.zero_block-sum.ensures

pub lanes-preserved : goal.lanes-preserved
lanes-preserved c m e =
    let s : Setting = setting_of c.args.self.now in
    let i : ℕ = c.lanes.lane in
    let read = block_read c.args.memory.now m c.place.result _ e (rw c.requires c.place.ensures.within) in
    let at : c.place.result ≡ place s i (c.columns.result - 1) = c.place.ensures.value in
    c.xored-sum.ensures _ _ (c.lanes.invariant m e) read
    ∙ ap (λ (k : ℕ). registers (xored (last_blocks s m i) (slice_index_or m k []))) (at ∙ ap (λ (q : ℕ). place s i (q - 1)) c.columns.ensures)
    ∙ ap registers (last_more s m i)

pub returns : goal.returns
returns c m e =
    let all : c.lanes.lane ≡ c.args.self.now.lanes = omega arith in
    c.lanes.invariant m e ∙ ap (λ (i : ℕ). registers (last_blocks (setting_of c.args.self.now) m i)) all
