use Rattle.std.proofs.Common.{ℕ, ◌∙◌, ap, refl}
use Rattle.std.specs.Prelude.{Some}
use Rattle.std.proofs.lemmas.Bool.{false≢true}
use Rattle.paseto_montgomery.specs.Words.{value}
use Rattle.paseto_p384.proofs.EcdsaLaws.{attempt-at, attempt-outside, nonzero-both, nonzero-first, nonzero-second}
use Rattle.paseto_p384.proofs.ecdsa.attempt.Goals as goal

pub returns-then-not-is_scalar : goal.returns-then-not-is_scalar
returns-then-not-is_scalar c = attempt-outside _ _ _ (λ h. false≢true (c.if-not-is_scalar.ensures.1 h))

pub returns-then-not-is_scalar-2 : goal.returns-then-not-is_scalar-2
returns-then-not-is_scalar-2 c =
    let r : ℕ = value c.first-r.result 6 in
    let s : ℕ = value c.second-s.result 6 in
    nonzero-first r s c.first-r.ensures.below (λ h. false≢true (c.if-not-is_scalar-2.ensures.1 h))
    ∙ attempt-at _ _ _ r s (c.if-not-is_scalar.ensures.0 refl) c.first-r.ensures.value c.second-s.ensures.value

pub returns-then-not-is_scalar-3 : goal.returns-then-not-is_scalar-3
returns-then-not-is_scalar-3 c =
    let r : ℕ = value c.first-r.result 6 in
    let s : ℕ = value c.second-s.result 6 in
    nonzero-second r s c.second-s.ensures.below (λ h. false≢true (c.if-not-is_scalar-3.ensures.1 h))
    ∙ attempt-at _ _ _ r s (c.if-not-is_scalar.ensures.0 refl) c.first-r.ensures.value c.second-s.ensures.value

pub returns : goal.returns
returns c =
    let r : ℕ = value c.first-r.result 6 in
    let s : ℕ = value c.second-s.result 6 in
    ap Some c.halves.ensures
    ∙ nonzero-both r s (c.if-not-is_scalar-2.ensures.0 refl).0 (c.if-not-is_scalar-3.ensures.0 refl).0
    ∙ attempt-at _ _ _ r s (c.if-not-is_scalar.ensures.0 refl) c.first-r.ensures.value c.second-s.ensures.value
