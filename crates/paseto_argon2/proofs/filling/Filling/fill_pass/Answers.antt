use Rattle.std.proofs.Common.{◌≡◌, ℕ, map, ap, ◌∙◌, arith}
use Rattle.paseto_argon2.specs.Block.{registers}
use Rattle.paseto_argon2.specs.Filling.{after_slices}
use Rattle.paseto_argon2.specs.Settings.{setting_of}
use Rattle.paseto_argon2.proofs.Filled.{slices_more, slices_none}
use Rattle.paseto_argon2.proofs.filling.Filling.fill_pass.Goals as goal

pub slices-init : goal.slices-init
slices-init c m e = e ∙ ap (map registers) (slices_none (setting_of c.args.self.now) m c.args.pass)

pub slices-preserved : goal.slices-preserved
slices-preserved c m e =
    c.fill_slice.ensures _ (c.slices.invariant m e) ∙ ap (map registers) (slices_more (setting_of c.args.self.now) m c.args.pass c.slices.slice)

pub returns : goal.returns
returns c m e =
    let all : c.slices.slice ≡ 4 = omega arith in
    c.slices.invariant m e ∙ ap (λ (n : ℕ). map registers (after_slices (setting_of c.args.self.now) m c.args.pass n)) all
