use Rattle.std.proofs.Common.{◌≡◌, ◌≢◌, ℕ, ◌+◌, ◌<◌, sym, ◌∙◌, ap, inl, inr, refl, arith}
use Rattle.std.proofs.Math.Nat.{mod-eq_of_lt}
use Rattle.std.proofs.lemmas.Bool.{false≢true}
use Rattle.paseto_montgomery.specs.Words.{value}
use Rattle.paseto_weierstrass_laws.specs.Curve.{order}
use Rattle.paseto_p384.specs.Element.{number}
use Rattle.paseto_weierstrass_laws.specs.Field.{plus, prime, times}
use Rattle.paseto_p384.specs.Point.{coordinates}
use Rattle.paseto_p384.proofs.EcdsaLaws.{first-of, first-parts}
use Rattle.paseto_p384.proofs.FieldLaws.{plus-below}
use Rattle.paseto_p384.proofs.ecdsa.is_first.Goals as goal

pub returns-then-is_equal : goal.returns-then-is_equal
returns-then-is_equal c =
    let p = coordinates c.args.p in
    let r : ℕ = value c.args.r.now 6 in
    ((λ h. absurd (false≢true h)), (λ h. absurd ((first-parts p r h).0 (c.if-is_equal.ensures.0 refl ∙ c.zero.ensures))))

pub returns-then-is_equal-2 : goal.returns-then-is_equal-2
returns-then-is_equal-2 c =
    let p = coordinates c.args.p in
    let r : ℕ = value c.args.r.now 6 in
    let some : p.z ≢ 0 = λ h. false≢true (c.if-is_equal.ensures.1 (h ∙ sym c.zero.ensures)) in
    let x = c.from_words-x.ensures ∙ mod-eq_of_lt (omega arith) in
    let same : times r p.z ≡ p.x = ap (λ n. times n p.z) (sym x) ∙ sym c.mul.ensures ∙ c.if-is_equal-2.ensures.0 refl in
    ((λ h. first-of p r (some, inl same)), (λ h. refl))

pub returns-then-not-is_less : goal.returns-then-not-is_less
returns-then-not-is_less c =
    let p = coordinates c.args.p in
    let r : ℕ = value c.args.r.now 6 in
    let x = c.from_words-x.ensures ∙ mod-eq_of_lt (omega arith) in
    let other : times r p.z ≢ p.x =
    λ h. false≢true (c.if-is_equal-2.ensures.1 (c.mul.ensures ∙ ap (λ n. times n p.z) x ∙ h)) in
    let above : r + order < prime → ⊥ = λ h. false≢true (c.if-not-is_less.ensures.1 (rw c.room.ensures (omega (arith, h)))) in
    ((λ h. absurd (false≢true h)), (λ h. elim ((first-parts p r h).1) [ inl low ↦ absurd (other low) | inr high ↦ absurd (above high.0) ]))

pub returns : goal.returns
returns c =
    let p = coordinates c.args.p in
    let r : ℕ = value c.args.r.now 6 in
    let some : p.z ≢ 0 = λ h. false≢true (c.if-is_equal.ensures.1 (h ∙ sym c.zero.ensures)) in
    let x = c.from_words-x.ensures ∙ mod-eq_of_lt (omega arith) in
    let other : times r p.z ≢ p.x =
    λ h. false≢true (c.if-is_equal-2.ensures.1 (c.mul.ensures ∙ ap (λ n. times n p.z) x ∙ h)) in
    let below : r + order < prime = omega (arith, rw c.room.ensures at c.if-not-is_less.ensures.0 refl) in
    let sum = c.add.ensures ∙ ap (λ n. plus n (number c.order_element.result)) x ∙ ap (plus r) c.order_element.ensures ∙ plus-below r order below in
    let product = c.mul-2.ensures ∙ ap (λ n. times n p.z) sum in (
      (λ h. first-of p r (some, inr (below, sym product ∙ c.is_equal-3.ensures.0 h))),
      (λ h. elim ((first-parts p r h).1) [ inl low ↦ absurd (other low) | inr high ↦ c.is_equal-3.ensures.1 (product ∙ high.1) ]),
    )
