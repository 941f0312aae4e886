use Rattle.std.proofs.Common.{◌≡◌, ℕ, ◌+◌, ◌*◌, ◌/◌, sym, ◌∙◌, ap, ap₂, arith}
use Rattle.paseto_edwards25519.specs.Curve.{sum}
use Rattle.paseto_edwards25519.specs.Extended.{affine}
use Rattle.paseto_edwards25519.specs.Point.{completed}
use Rattle.paseto_edwards25519.specs.Windows.{signed_multiple}
use Rattle.paseto_edwards25519.proofs.MultipleLaws.{sum-with_none}
use Rattle.paseto_edwards25519.proofs.point.joint.add_listed.Goals as goal

pub returns-then-digit-eq0 : goal.returns-then-digit-eq0
returns-then-digit-eq0 c a made =
    let p = affine (completed c.args.p) in
    sym (sum-with_none p a c.args.p.on_curve.point) ∙ ap (λ n. sum p (signed_multiple n a)) (sym c.if-digit-eq0.true)

pub returns : goal.returns
returns c a made =
    let digit : ℕ = c.args.digit in
    let odd = c.requires.odd c.if-digit-eq0.false in
    let same : 2 * (digit / 2) + 1 ≡ digit = omega (arith, odd) in
    let read = made (digit / 2) c.index-table-digit.result (omega (arith, c.requires.bound)) ∙ ap (λ n. signed_multiple n a) same in
    c.add.ensures ∙ ap₂ (λ p q. sum p q) c.to_extended.ensures read
