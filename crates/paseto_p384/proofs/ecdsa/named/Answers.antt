use Rattle.std.proofs.Common.{ℕ, sym, ◌∙◌, ap, ap₂, subst}
use Rattle.std.proofs.Math.Nat.{mod-eq_of_lt}
use Rattle.paseto_montgomery.specs.Words.{value}
use Rattle.paseto_weierstrass_laws.specs.Group.{Same}
use Rattle.paseto_weierstrass_laws.specs.Multiples.{multiple_of}
use Rattle.paseto_weierstrass_laws.specs.Point.{Point, base, point_add}
use Rattle.paseto_weierstrass_laws.proofs.MultipleLaws.{sum-made}
use Rattle.paseto_weierstrass_laws.proofs.PointLaws.{base-is_point}
use Rattle.paseto_p384.specs.Ecdsa.{named}
use Rattle.paseto_p384.specs.Point.{coordinates}
use Rattle.paseto_p384.specs.Scalar.{scalar_inverse, scalar_times}
use Rattle.paseto_p384.proofs.ecdsa.named.Goals as goal

pub returns : goal.returns
unfolding named
returns c =
    let q = coordinates c.args.q in
    let s = c.from_words.ensures ∙ mod-eq_of_lt c.requires.second in
    let r = c.from_words-3.ensures ∙ mod-eq_of_lt c.requires.first in
    let inverse = c.inverse-s_inverse.ensures ∙ ap scalar_inverse s in
    let u1 = c.to_words.ensures.value ∙ c.mul-u1.ensures ∙ ap₂ scalar_times c.from_words-2.ensures inverse in
    let u2 = c.to_words-2.ensures.value ∙ c.mul-u2.ensures ∙ ap₂ scalar_times r inverse in
    let k : ℕ = value c.to_words.result 6 in
    let l : ℕ = value c.to_words-2.result 6 in
    let sum = sum-made base q (coordinates c.multiply_base.result) (coordinates c.multiply.result) k l base-is_point c.requires.point
    c.multiply_base.ensures c.multiply.ensures in
    let meant = ap₂ (λ m n. point_add (multiple_of m base) (multiple_of n q)) u1 u2 in
    subst (λ (p : Point). Same p (coordinates c.add.result)) meant
    (subst (Same (point_add (multiple_of k base) (multiple_of l q))) (sym c.add.ensures) sum.same)
