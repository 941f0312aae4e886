use Rattle.std.proofs.Common.{inl, inr, sym, ◌∙◌}
use Rattle.std.proofs.lemmas.Bool.{false≢true}
use Rattle.paseto_edwards25519.specs.Extended.{affine}
use Rattle.paseto_edwards25519.specs.Field.{number}
use Rattle.paseto_edwards25519.specs.Point.{completed, projected}
use Rattle.paseto_edwards25519.proofs.FieldLaws.{number-below}
use Rattle.paseto_edwards25519.proofs.SmallOrderLaws.{small-has_zero, zero-first, zero-is_small, zero-second}
use Rattle.paseto_edwards25519.proofs.point.has_small_order.Goals as goal

pub returns-then-is_equal : goal.returns-then-is_equal
returns-then-is_equal c =
    let p = c.args.p in
    let twice = c.double-twice.result in
    let none = sym c.carry.ensures.value ∙ c.is_equal.ensures.0 c.if-is_equal.true ∙ c.zero.ensures.value in
    let zero = (zero-first (number twice.e) (number twice.f) (number twice.g) (number twice.h) (number-below twice.e) twice.on_curve).1 none in (
      (λ h. zero-is_small (affine (projected p)) (affine (completed twice)) p.on_curve.point c.double-twice.ensures (inl zero)),
      (λ small. c.if-is_equal.true),
    )

pub returns-else-is_equal : goal.returns-else-is_equal
returns-else-is_equal c =
    let p = c.args.p in
    let twice = c.double-twice.result in
    let first = zero-first (number twice.e) (number twice.f) (number twice.g) (number twice.h) (number-below twice.e) twice.on_curve in
    let second = zero-second (number twice.e) (number twice.f) (number twice.g) (number twice.h) (number-below twice.h) twice.on_curve in (
      (λ h. zero-is_small (affine (projected p)) (affine (completed twice)) p.on_curve.point c.double-twice.ensures
          (inr (second.1 (sym c.carry-else-is_equal.ensures.value ∙ c.is_equal-else-is_equal.ensures.0 h ∙ c.zero-else-is_equal.ensures.value)))),
      (λ small. elim (small-has_zero (affine (projected p)) (affine (completed twice)) p.on_curve.point c.double-twice.ensures small) [
        | inl none ↦
            absurd (false≢true (sym c.if-is_equal.false
            ∙ c.is_equal.ensures.1 (c.carry.ensures.value ∙ first.0 none ∙ sym c.zero.ensures.value)))
        | inr none ↦ c.is_equal-else-is_equal.ensures.1 (c.carry-else-is_equal.ensures.value ∙ second.0 none ∙ sym c.zero-else-is_equal.ensures.value)
      ]),
    )
