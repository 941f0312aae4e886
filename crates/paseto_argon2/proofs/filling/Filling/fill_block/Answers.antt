use Rattle.std.proofs.Common.{ℕ, ◌≤◌, List, [], slice_index_or, refl, ap, ◌∙◌, arith}
use Rattle.paseto_argon2.specs.Block.{xored}
use Rattle.paseto_argon2.specs.Filling.{Setting, column, made}
use Rattle.paseto_argon2.specs.Settings.{setting_of}
use Rattle.paseto_argon2.proofs.Filled.{made_is, next_first, next_made, next_mixed, written}
use Rattle.paseto_argon2.proofs.Memory.{block_read}
use Rattle.paseto_argon2.proofs.filling.Filling.fill_block.Goals as goal
use Rattle.paseto_argon2.proofs.filling.Filling.fill_block.Goals.{else-at-eq0-via-then-at-eq0+else-column-lt2, else-at-eq0-via-else-at-eq0}

pub returns-then-column-lt2 : goal.returns-then-column-lt2
returns-then-column-lt2 c m e =
    let s : Setting = setting_of c.args.self.now in
    let at = c.args.at in
    let n : ℕ = c.args.index in
    let x : ℕ = c.args.random in
    written s c.args.memory.now m at.pass at.lane at.slice n x _ _ _ e c.place-place.ensures.value c.first_block.ensures
    (next_first s m at.pass at.lane at.slice n x (column s at.slice n) c.if-at-eq0.true refl c.if-column-lt2.true)

pub returns-then-at-eq0-2 : goal.returns-then-at-eq0-2
returns-then-at-eq0-2 c m e =
    let s : Setting = setting_of c.args.self.now in
    let at = c.args.at in
    let n : ℕ = c.args.index in
    let x : ℕ = c.args.random in
    let memory = c.args.memory.now in
    let far : 2 ≤ column s at.slice n = elim c.else-at-eq0.branch [
      | else-at-eq0-via-then-at-eq0+else-column-lt2 w ↦ omega (arith, w.if-column-lt2.false)
      | else-at-eq0-via-else-at-eq0 w ↦ absurd (omega (arith, w.if-at-eq0.false, c.if-at-eq0-2.true))
    ] in
    let previous = block_read memory m c.place-previous.result _ e (rw c.requires.size c.place-previous.ensures.within) in
    let reference = block_read memory m c.place-reference.result _ e (rw c.requires.size c.place-reference.ensures.within) in
    let is_made = made_is s m at.pass at.lane at.slice n x _ _ _ _ _ _ c.column_before.ensures.value c.place-previous.ensures.value
    c.reference_lane-lane.ensures.value c.area-size.ensures.value c.reference_column.ensures.value c.place-reference.ensures.value in
    written s memory m at.pass at.lane at.slice n x _ _ _ e c.place-place.ensures.value (c.compressed-made.ensures _ _ previous reference)
    (is_made ∙ next_made s m at.pass at.lane at.slice n x c.if-at-eq0-2.true far)

pub returns : goal.returns
returns c m e =
    let s : Setting = setting_of c.args.self.now in
    let at = c.args.at in
    let n : ℕ = c.args.index in
    let x : ℕ = c.args.random in
    let memory = c.args.memory.now in
    let previous = block_read memory m c.place-previous.result _ e (rw c.requires.size c.place-previous.ensures.within) in
    let reference = block_read memory m c.place-reference.result _ e (rw c.requires.size c.place-reference.ensures.within) in
    let old = block_read memory m c.place-place.result _ e (rw c.requires.size c.place-place.ensures.within) in
    let is_made = made_is s m at.pass at.lane at.slice n x _ _ _ _ _ _ c.column_before.ensures.value c.place-previous.ensures.value
    c.reference_lane-lane.ensures.value c.area-size.ensures.value c.reference_column.ensures.value c.place-reference.ensures.value in
    written s memory m at.pass at.lane at.slice n x _ _ _ e c.place-place.ensures.value
    (c.xored.ensures _ _ (c.compressed-made.ensures _ _ previous reference) old)
    (ap (λ (b : List ℕ). xored b (slice_index_or m c.place-place.result [])) is_made
    ∙ ap (λ (k : ℕ). xored (made s m at.pass at.lane at.slice n x) (slice_index_or m k [])) c.place-place.ensures.value
    ∙ next_mixed s m at.pass at.lane at.slice n x (omega (arith, c.if-at-eq0-2.false)))
