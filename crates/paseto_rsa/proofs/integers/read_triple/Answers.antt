use Rattle.std.proofs.Common.{[], ◌∷◌, refl, subst}
use Rattle.paseto_rsa.specs.Integers.{AreIntegers}
use Rattle.paseto_rsa.proofs.IntegerLaws.{integer-unique, integers-cons, integers-none, integers-parts}
use Rattle.paseto_rsa.proofs.integers.read_triple.Goals as goal

pub returns-in-None : goal.returns-in-None
returns-in-None g c x y z b below below' below'' i =
    let first = integers-parts x (y ∷ z ∷ []) b c.args.octets.now i in
    c.in-None.ensures x first.0 below first.1.0

pub returns-in-None-read_number : goal.returns-in-None-read_number
returns-in-None-read_number g c x y z b below below' below'' i =
    let first = integers-parts x (y ∷ z ∷ []) b c.args.octets.now i in
    let same = integer-unique x _ first.0 _ c.args.octets.now first.1.0 c.in-Some.ensures.0 in
    let second = integers-parts y (z ∷ []) b _ (subst (AreIntegers (y ∷ z ∷ []) b) same.1 first.1.1) in
    c.in-None-read_number.ensures y second.0 below' second.1.0

pub returns-in-None-read_number-2 : goal.returns-in-None-read_number-2
returns-in-None-read_number-2 g c x y z b below below' below'' i =
    let first = integers-parts x (y ∷ z ∷ []) b c.args.octets.now i in
    let same = integer-unique x _ first.0 _ c.args.octets.now first.1.0 c.in-Some.ensures.0 in
    let second = integers-parts y (z ∷ []) b _ (subst (AreIntegers (y ∷ z ∷ []) b) same.1 first.1.1) in
    let same' = integer-unique y _ second.0 _ _ second.1.0 c.in-Some-read_number.ensures.0 in
    let third = integers-parts z [] b _ (subst (AreIntegers (z ∷ []) b) same'.1 second.1.1) in
    c.in-None-read_number-2.ensures z third.0 below'' third.1.0

pub returns : goal.returns
returns g c = (
  integers-cons _ _ _ _ _ c.in-Some.ensures.0
      (integers-cons _ _ _ _ _ c.in-Some-read_number.ensures.0
      (integers-cons _ _ _ _ _ c.in-Some-read_number-2.ensures.0 (integers-none _ _ refl))),
  c.in-Some.ensures.1,
  c.in-Some-read_number.ensures.1,
  c.in-Some-read_number-2.ensures.1,
)
