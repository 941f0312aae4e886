use Rattle.std.proofs.Common.{◌≡◌, ℕ, ◌*◌, List, [], length, map, slice_index, slice_index_or, ap, ◌∙◌, arith}
use Rattle.paseto_argon2.specs.Block.{registers}
use Rattle.paseto_argon2.specs.Filling.{Setting, after_blocks, place}
use Rattle.paseto_argon2.specs.Settings.{setting_of}
use Rattle.paseto_argon2.proofs.Filled.{after_more, after_none, word_dependent}
use Rattle.paseto_argon2.proofs.Memory.{block_read}
use Rattle.paseto_argon2.proofs.filling.Filling.fill_dependently.Goals as goal

pub dependent-init : goal.dependent-init
dependent-init c m e =
    let at = c.args.at in
    e ∙ ap (map registers) (after_none (setting_of c.args.self.now) m at.pass at.lane at.slice)

pub dependent-preserved : goal.dependent-preserved
dependent-preserved c m e =
    let s : Setting = setting_of c.args.self.now in
    let at = c.args.at in
    let n : ℕ = c.dependent.index in
    let before : List (List ℕ) = after_blocks s m at.pass at.lane at.slice n in
    let held = c.dependent.invariant m e in
    let size : length c.dependent.memory ≡ s.lanes * (4 * s.segment) = omega arith in
    let read = block_read c.dependent.memory before c.place-previous.result _ held (rw size c.place-previous.ensures.within) in
    let previous : c.place-previous.result ≡ place s at.lane c.column_before.result = c.place-previous.ensures.value in
    let word = c.word_of-random.ensures _ read
    ∙ ap (λ (k : ℕ). slice_index (slice_index_or before k []) 0) (previous ∙ ap (place s at.lane) c.column_before.ensures.value) in
    c.fill_block.ensures before held
    ∙ ap (map registers) (after_more s m at.pass at.lane at.slice n _ (word_dependent s before at.pass at.lane at.slice n _ c.requires.half word))

pub returns : goal.returns
returns c m e =
    let at = c.args.at in
    let all : c.dependent.index ≡ c.args.self.now.segment = omega arith in
    c.dependent.invariant m e
    ∙ ap (λ (n : ℕ). map registers (after_blocks (setting_of c.args.self.now) m at.pass at.lane at.slice n)) all
