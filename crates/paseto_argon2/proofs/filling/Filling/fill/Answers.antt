use Rattle.std.proofs.Common.{◌≡◌, ℕ, map, ap, ◌∙◌, arith}
use Rattle.paseto_argon2.specs.Block.{registers}
use Rattle.paseto_argon2.specs.Filling.{after_passes}
use Rattle.paseto_argon2.specs.Settings.{setting_of}
use Rattle.paseto_argon2.proofs.Filled.{passes_more, passes_none}
use Rattle.paseto_argon2.proofs.filling.Filling.fill.Goals as goal

pub passes-init : goal.passes-init
passes-init c m e = e ∙ ap (map registers) (passes_none (setting_of c.args.self.now) m)

pub passes-preserved : goal.passes-preserved
passes-preserved c m e =
    c.fill_pass.ensures _ (c.passes.invariant m e) ∙ ap (map registers) (passes_more (setting_of c.args.self.now) m c.passes.pass)

pub returns : goal.returns
returns c m e =
    let all : c.passes.pass ≡ c.args.self.now.passes = omega arith in
    c.passes.invariant m e ∙ ap (λ (n : ℕ). map registers (after_passes (setting_of c.args.self.now) m n)) all
