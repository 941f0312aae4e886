use Rattle.std.proofs.Common.{sym, ◌∙◌, ap, subst}
use Rattle.std.proofs.lemmas.Bool.{false≢true}
use Rattle.paseto_edwards_laws.specs.Edwards25519.{base}
use Rattle.paseto_edwards25519.specs.Curve.{HasSmallOrder, multiple, sum}
use Rattle.paseto_edwards25519.specs.Encoding.{encoded}
use Rattle.paseto_edwards25519.specs.Scalar.{number32}
use Rattle.paseto_ed25519.proofs.ed25519.is_sum_of.Goals as goal

pub returns-then-has_small_order : goal.returns-then-has_small_order
returns-then-has_small_order c =
    let small = subst (λ p. HasSmallOrder p) c.flattened.ensures (c.has_small_order.ensures.0 c.if-has_small_order.true) in
    ((λ h. absurd (false≢true h)), (λ h. absurd (h.0 small)))

pub returns-then-has_small_order-2 : goal.returns-then-has_small_order-2
returns-then-has_small_order-2 c =
    let first = multiple (number32 c.args.s.now) base in
    let total = c.multiply_both-total.ensures ∙ ap (λ a. sum first (multiple (number32 c.args.k.now) a)) c.negate.ensures in
    let small = subst (λ p. HasSmallOrder p) total (c.has_small_order-2.ensures.0 c.if-has_small_order-2.true) in
    ((λ h. absurd (false≢true h)), (λ h. absurd (h.1 small)))

pub returns : goal.returns
returns c =
    let first = multiple (number32 c.args.s.now) base in
    let total = c.multiply_both-total.ensures ∙ ap (λ a. sum first (multiple (number32 c.args.k.now) a)) c.negate.ensures in
    let made = ap (λ p. encoded p) total in (
      (λ h. (
        (λ small. false≢true (sym c.if-has_small_order.false
            ∙ c.has_small_order.ensures.1 (subst (λ p. HasSmallOrder p) (sym c.flattened.ensures) small))),
        (λ small. false≢true (sym c.if-has_small_order-2.false
            ∙ c.has_small_order-2.ensures.1 (subst (λ p. HasSmallOrder p) (sym total) small))),
        sym made ∙ c.is_encoded_as.ensures.0 h,
      )),
      (λ h. c.is_encoded_as.ensures.1 (made ∙ h.2)),
    )
