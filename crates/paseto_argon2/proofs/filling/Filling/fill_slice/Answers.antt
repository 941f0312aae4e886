use Rattle.std.proofs.Common.{◌≡◌, ℕ, map, ap, ◌∙◌, arith}
use Rattle.paseto_argon2.specs.Block.{registers}
use Rattle.paseto_argon2.specs.Filling.{after_lanes}
use Rattle.paseto_argon2.specs.Settings.{setting_of}
use Rattle.paseto_argon2.proofs.Filled.{lanes_more, lanes_none}
use Rattle.paseto_argon2.proofs.filling.Filling.fill_slice.Goals as goal

pub lanes-init : goal.lanes-init
lanes-init c m e = e ∙ ap (map registers) (lanes_none (setting_of c.args.self.now) m c.args.pass c.args.slice)

pub lanes-preserved : goal.lanes-preserved
lanes-preserved c m e =
    c.fill_segment.ensures _ (c.lanes.invariant m e) ∙ ap (map registers) (lanes_more (setting_of c.args.self.now) m c.args.pass c.args.slice c.lanes.lane)

pub returns : goal.returns
returns c m e =
    let all : c.lanes.lane ≡ c.args.self.now.lanes = omega arith in
    c.lanes.invariant m e ∙ ap (λ (n : ℕ). map registers (after_lanes (setting_of c.args.self.now) m c.args.pass c.args.slice n)) all
