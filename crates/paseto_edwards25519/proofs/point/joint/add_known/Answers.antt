use Rattle.std.proofs.Common.{◌≡◌, ℕ, ◌+◌, ◌*◌, ◌/◌, sym, ◌∙◌, ap, ap₂, arith}
use Rattle.paseto_edwards_laws.specs.Edwards25519.{base}
use Rattle.paseto_edwards25519.specs.Curve.{sum}
use Rattle.paseto_edwards25519.specs.Extended.{affine}
use Rattle.paseto_edwards25519.specs.Point.{completed}
use Rattle.paseto_edwards25519.specs.Windows.{signed_multiple}
use Rattle.paseto_edwards25519.proofs.MultipleLaws.{sum-with_none}
use Rattle.paseto_edwards25519.proofs.point.joint.add_known.Goals as goal

pub returns-then-digit-eq0 : goal.returns-then-digit-eq0
returns-then-digit-eq0 c =
    let p = affine (completed c.args.p) in
    sym (sum-with_none p base c.args.p.on_curve.point) ∙ ap (λ n. sum p (signed_multiple n base)) (sym c.if-digit-eq0.true)

pub add_affine-requires : goal.add_affine-requires
add_affine-requires c =
    let digit : ℕ = c.args.digit in
    c.requires.unit (digit / 2) c.index-table-digit.result (omega (arith, c.requires.bound))

pub returns : goal.returns
returns c =
    let digit : ℕ = c.args.digit in
    let odd = c.requires.odd c.if-digit-eq0.false in
    let same : 2 * (digit / 2) + 1 ≡ digit = omega (arith, odd) in
    let read = c.requires.table (digit / 2) c.index-table-digit.result (omega (arith, c.requires.bound)) ∙ ap (λ n. signed_multiple n base) same in
    c.add_affine.ensures ∙ ap₂ (λ p q. sum p q) c.to_extended.ensures read
