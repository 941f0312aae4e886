use Rattle.std.proofs.Common.{ℕ, ◌<◌, refl, arith}
use Rattle.std.proofs.lemmas.Bool.{false≢true}
use Rattle.paseto_montgomery.specs.Words.{value}
use Rattle.paseto_weierstrass_laws.specs.Field.{prime}
use Rattle.paseto_p384.specs.Ecdsa.{named}
use Rattle.paseto_p384.specs.Point.{coordinates}
use Rattle.paseto_p384.proofs.EcdsaLaws.{accepts-of, accepts-parts, first-same, named-is_point}
use Rattle.paseto_p384.proofs.ecdsa.accepts.Goals as goal

pub returns-then-not-is_scalar : goal.returns-then-not-is_scalar
returns-then-not-is_scalar c =
    ((λ h. absurd (false≢true h)), (λ h. c.if-not-is_scalar.ensures.1 (accepts-parts _ _ _ _ h).0))

pub returns-then-not-is_scalar-2 : goal.returns-then-not-is_scalar-2
returns-then-not-is_scalar-2 c =
    ((λ h. absurd (false≢true h)), (λ h. c.if-not-is_scalar-2.ensures.1 (accepts-parts _ _ _ _ h).1))

pub returns : goal.returns
returns c =
    let q = coordinates c.args.q in
    let e : ℕ = value c.args.e.now 6 in
    let r : ℕ = value c.args.r.now 6 in
    let s : ℕ = value c.args.s.now 6 in
    let found = coordinates c.named.result in
    let range = c.if-not-is_scalar.ensures.0 refl in
    let low : r < prime = omega (arith, range.1) in
    let same = first-same (named q e r s) found r low (named-is_point q e r s c.requires) c.named.ensures in (
      (λ h. accepts-of q e r s (c.if-not-is_scalar.ensures.0 refl, c.if-not-is_scalar-2.ensures.0 refl, same.1 (c.is_first.ensures.0 h))),
      (λ h. c.is_first.ensures.1 (same.0 (accepts-parts q e r s h).2)),
    )
