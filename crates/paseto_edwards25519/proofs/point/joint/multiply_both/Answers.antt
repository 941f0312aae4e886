use Rattle.std.proofs.Common.{◌≡◌, ℕ, suc, ◌+◌, ◌-◌, ◌^◌, ◌<◌, sym, ◌∙◌, ap, ap₂, arith}
use Rattle.paseto_edwards_laws.proofs.CurveLaws.{base-point}
use Rattle.paseto_edwards_laws.specs.Edwards25519.{base}
use Rattle.paseto_edwards25519.specs.Curve.{multiple, sum}
use Rattle.paseto_edwards25519.specs.Extended.{affine}
use Rattle.paseto_edwards25519.specs.Point.{completed, point}
use Rattle.paseto_edwards25519.specs.Scalar.{number32}
use Rattle.paseto_edwards25519.specs.Windows.{left_of, signed_multiple, window}
use Rattle.paseto_edwards25519.proofs.MultipleLaws.{joint-next, joint-none}
use Rattle.paseto_edwards25519.proofs.WindowLaws.{left-first, left-used, slid-below, slid-is_odd, window-step}
use Rattle.paseto_edwards25519.proofs.point.joint.multiply_both.Goals as goal

pub digits-init : goal.digits-init
digits-init c =
    let s : ℕ = number32 c.args.s.now in
    let k : ℕ = number32 c.args.k.now in
    let count : ℕ = c.used-count.result in
    let all : count ≡ count - 0 = omega arith in
    let s_low : s < 2 ^ 256 = omega (arith, c.halves.ensures) in
    let k_low : k < 2 ^ 256 = omega (arith, c.halves-2.ensures) in
    let s_none = left-used s count c.used-count.ensures.bound s_low
    (λ j from below. sym (c.windows-first.ensures j below ∙ ap (λ n. window n j) c.halves.ensures) ∙ c.used-count.ensures.first j from below) in
    let k_none = left-used k count c.used-count.ensures.bound k_low
    (λ j from below. sym (c.windows-second.ensures j below ∙ ap (λ n. window n j) c.halves-2.ensures) ∙ c.used-count.ensures.second j from below) in
    c.flattened-sum.ensures ∙ c.identity.ensures
    ∙ joint-none (left_of s count) (left_of k count) (point c.args.a) s_none k_none
    ∙ ap₂ (λ m n. sum (multiple (left_of s m) base) (multiple (left_of k n) (point c.args.a))) all all

pub digits-preserved : goal.digits-preserved
digits-preserved c =
    let s : ℕ = number32 c.args.s.now in
    let k : ℕ = number32 c.args.k.now in
    let i : ℕ = c.digits.i in
    let count : ℕ = c.used-count.result in
    let at : ℕ = count - 1 - i in
    let low : at < 257 = omega (arith, c.used-count.ensures.bound) in
    let before : count - i ≡ suc at = omega arith in
    let after : count - (i + 1) ≡ at = omega arith in
    let a = point c.args.a in
    let on_curve = c.args.a.on_curve.point in
    let shifted = ap₂ (λ m n. sum (multiple (left_of s m) base) (multiple (left_of k n) a)) before before in
    let first = c.windows-first.ensures at low ∙ ap (λ n. window n at) c.halves.ensures in
    let second = c.windows-second.ensures at low ∙ ap (λ n. window n at) c.halves-2.ensures in
    let table = c.signed_multiples-table.ensures.is a on_curve c.odd_multiples.ensures in
    let more = c.add_known-more.ensures ∙ ap (λ n. sum (affine (completed c.double.result)) (signed_multiple n base)) first in
    let digits = c.to_projective-sum.ensures ∙ c.add_listed.ensures a table
    ∙ ap₂ (λ p n. sum p (signed_multiple n a)) more second in
    joint-next (left_of s (suc at)) (left_of k (suc at)) (window s at) (window k at) (left_of s at) (left_of k at) a _ _ _ on_curve
    c.double.ensures (c.digits.invariant ∙ shifted) digits (slid-below _) (slid-below _) (window-step s at) (window-step k at)
    ∙ ap₂ (λ m n. sum (multiple (left_of s m) base) (multiple (left_of k n) a)) (sym after) (sym after)

pub add_known-more-requires-clause-bound : goal.add_known-more-requires-clause-bound
add_known-more-requires-clause-bound c =
    let digit = c.windows-first.ensures (c.used-count.result - 1 - c.digits.i) (omega (arith, c.used-count.ensures.bound)) in
    rw digit (slid-below _)

pub add_known-more-requires-clause-odd : goal.add_known-more-requires-clause-odd
add_known-more-requires-clause-odd c =
    let digit = c.windows-first.ensures (c.used-count.result - 1 - c.digits.i) (omega (arith, c.used-count.ensures.bound)) in
    rw digit (slid-is_odd _)

pub add_known-more-requires-clause-table : goal.add_known-more-requires-clause-table
add_known-more-requires-clause-table c = c.signed_multiples-known.ensures.is base base-point c.known_odd_multiples.ensures.is

pub add_known-more-requires-clause-unit : goal.add_known-more-requires-clause-unit
add_known-more-requires-clause-unit c = c.signed_multiples-known.ensures.unit c.known_odd_multiples.ensures.unit

pub add_listed-requires-clause-bound : goal.add_listed-requires-clause-bound
add_listed-requires-clause-bound c =
    let digit = c.windows-second.ensures (c.used-count.result - 1 - c.digits.i) (omega (arith, c.used-count.ensures.bound)) in
    rw digit (slid-below _)

pub add_listed-requires-clause-odd : goal.add_listed-requires-clause-odd
add_listed-requires-clause-odd c =
    let digit = c.windows-second.ensures (c.used-count.result - 1 - c.digits.i) (omega (arith, c.used-count.ensures.bound)) in
    rw digit (slid-is_odd _)

pub returns : goal.returns
returns c =
    let s : ℕ = number32 c.args.s.now in
    let k : ℕ = number32 c.args.k.now in
    let a = point c.args.a in
    let ended : c.used-count.result - c.digits.i ≡ 0 = omega arith in
    c.digits.invariant
    ∙ ap (λ n. sum (multiple (left_of s n) base) (multiple (left_of k n) a)) ended
    ∙ ap₂ (λ m n. sum (multiple m base) (multiple n a)) (left-first s) (left-first k)
