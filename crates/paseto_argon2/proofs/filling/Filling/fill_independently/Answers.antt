use Rattle.std.proofs.Common.{◌≡◌, ℕ, ◌+◌, ◌/◌, List, map, ap, ◌∙◌, arith}
use Rattle.paseto_argon2.specs.Block.{registers}
use Rattle.paseto_argon2.specs.Filling.{Setting, address_block, after_blocks}
use Rattle.paseto_argon2.specs.Settings.{setting_of}
use Rattle.paseto_argon2.proofs.Filled.{after_more, after_none, word_independent}
use Rattle.paseto_argon2.proofs.filling.Filling.fill_independently.Goals as goal
use Rattle.paseto_argon2.proofs.filling.Filling.fill_independently.Goals.{then-index-eq0, else-index-eq0}

pub independent-init : goal.independent-init
independent-init c = (
  λ none. absurd (omega (arith, none)),
  λ m e. e ∙ ap (map registers) (after_none (setting_of c.args.self.now) m c.args.at.pass c.args.at.lane c.args.at.slice),
)

pub independent-preserved : goal.independent-preserved
independent-preserved c =
    let s : Setting = setting_of c.args.self.now in
    let at = c.args.at in
    let n : ℕ = c.independent.index in
    let kept : c.if-index-eq0.addresses ≡ registers (address_block s at.pass at.lane at.slice (n / 128)) =
    elim c.if-index-eq0.branch [
      | then-index-eq0 w ↦ w.addresses-is ∙ w.address_block-addresses.ensures
      | else-index-eq0 w ↦ w.addresses-is ∙ c.independent.invariant.0 (omega (arith, w.if-index-eq0.false))
    ] in
    let word = c.word_of-random.ensures _ kept in (
      λ more.
          let same : n / 128 ≡ (n + 1) / 128 = omega (arith, more) in
          kept ∙ ap (λ (k : ℕ). registers (address_block s at.pass at.lane at.slice k)) same,
      λ m e.
          let before : List (List ℕ) = after_blocks s m at.pass at.lane at.slice n in
          c.fill_block.ensures before (c.independent.invariant.1 m e)
          ∙ ap (map registers) (after_more s m at.pass at.lane at.slice n _ (word_independent s before at.pass at.lane at.slice n _ c.requires.half word)),
    )

pub returns : goal.returns
returns c m e =
    let at = c.args.at in
    let all : c.independent.index ≡ c.args.self.now.segment = omega arith in
    c.independent.invariant.1 m e
    ∙ ap (λ (n : ℕ). map registers (after_blocks (setting_of c.args.self.now) m at.pass at.lane at.slice n)) all
