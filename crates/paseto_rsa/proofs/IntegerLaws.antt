-- INTEGERs.
use Rattle.std.proofs.Common.{◌≡◌, ◌≢◌, ℕ, zero, suc, ◌-◌, ◌*◌, ◌^◌, ◌<◌, ◌≤◌, inl, inr, List, [], ◌∷◌, ◌++◌, length, get_or, drop, refl, sym, ◌∙◌, ap, subst, arith}
use Rattle.std.proofs.Math.Nat.{eq-zero-or-pos, pow-le-pow_right}
use Rattle.std.proofs.lemmas.List.{append-nil, length-drop}
use Rattle.paseto_montgomery.specs.Octets.{os2ip}
use Rattle.paseto_montgomery.proofs.OctetsLaws.{os2ip-cons}
use Rattle.paseto_der.specs.Element.{element}
use Rattle.paseto_der.proofs.ElementLaws.{element-unique}
use Rattle.paseto_rsa.specs.Integers.{AreIntegers, IsInteger, IsSequence, IsShortest}

-- a number whose first octet is not 0
os2ip-least : (x : ℕ) (xs : List ℕ) → 0 < x → 256 ^ length xs ≤ os2ip (x ∷ xs)
os2ip-least zero xs some = absurd (omega arith)
os2ip-least (suc x) xs some = omega (arith, os2ip-cons (suc x) xs)

pub least-zero : (contents : List ℕ) → get_or contents 0 0 ≡ 0 → IsShortest contents → 0 < length (drop 1 contents)
    → 256 ^ (length (drop 1 contents) - 1) ≤ os2ip (drop 1 contents)
least-zero [] first s some = absurd (omega arith)
least-zero (x ∷ []) first s some = absurd (omega arith)
least-zero (x ∷ (y ∷ ys)) first s some =
    let high : 128 ≤ y = s.least (omega arith) first in
    let size : length ys ≡ suc (length ys) - 1 = omega arith in
    subst (λ (k : ℕ). 256 ^ k ≤ os2ip (y ∷ ys)) size (os2ip-least y ys (omega arith))

pub least-some : (contents : List ℕ) → 0 < length contents → get_or contents 0 0 ≢ 0
    → 256 ^ (length contents - 1) ≤ os2ip contents
least-some [] some first = absurd (omega arith)
least-some (x ∷ xs) some first =
    let size : length xs ≡ suc (length xs) - 1 = omega arith in
    subst (λ (k : ℕ). 256 ^ k ≤ os2ip (x ∷ xs)) size (os2ip-least x xs (omega arith))

pub value-zero : (contents : List ℕ) → get_or contents 0 0 ≡ 0 → 0 < length contents → os2ip (drop 1 contents) ≡ os2ip contents
value-zero [] first some = absurd (omega arith)
value-zero (x ∷ xs) first some =
    let product = ap (λ k. k * 256 ^ length xs) first in
    omega (arith, os2ip-cons x xs, product)

-- a number that has more octets than these is not below what they count
pub least-front : (most : ℕ) (contents : List ℕ) → most < length contents → get_or contents 0 0 ≢ 0 → 256 ^ most ≤ os2ip contents
least-front most contents long first =
    let bound : 256 ^ most ≤ 256 ^ (length contents - 1) = pow-le-pow_right (omega arith) (omega arith) in
    let least = least-some contents (omega arith) first in
    omega (arith, bound, least)

pub least-long : (most : ℕ) (contents : List ℕ) → suc most < length contents → IsShortest contents → 256 ^ most ≤ os2ip contents
least-long most contents long s = elim (eq-zero-or-pos (get_or contents 0 0)) [
  | inl first ↦
      (let size : length (drop 1 contents) ≡ length contents - 1 = length-drop 1 contents in
      let bound : 256 ^ most ≤ 256 ^ (length (drop 1 contents) - 1) = pow-le-pow_right (omega arith) (omega arith) in
      let least = least-zero contents first s (omega arith) in
      let same = value-zero contents first (omega arith) in
      omega (arith, bound, least, same))
  | inr first ↦ least-front most contents (omega arith) (λ e. omega (arith, e))
]

pub integers-nil : (behind octets : List ℕ) → AreIntegers [] behind octets → octets ≡ behind
unfolding AreIntegers
integers-nil behind octets h = h

pub integers-none : (behind octets : List ℕ) → octets ≡ behind → AreIntegers [] behind octets
unfolding AreIntegers
integers-none behind octets h = h

pub integers-parts : (x : ℕ) (xs behind octets : List ℕ) → AreIntegers (x ∷ xs) behind octets
    → (rest : List ℕ) × (IsInteger x rest octets × AreIntegers xs behind rest)
unfolding AreIntegers
integers-parts x xs behind octets h = h

pub integers-cons : (x : ℕ) (xs rest behind octets : List ℕ) → IsInteger x rest octets → AreIntegers xs behind rest
    → AreIntegers (x ∷ xs) behind octets
unfolding AreIntegers
integers-cons x xs rest behind octets i more = (rest, (i, more))

pub integers-split : (xs ys behind octets : List ℕ) → AreIntegers (xs ++ ys) behind octets
    → (rest : List ℕ) × (AreIntegers xs rest octets × AreIntegers ys behind rest)
integers-split [] ys behind octets h = (octets, (integers-none octets octets refl, h))
integers-split (x ∷ xs) ys behind octets h =
    let first = integers-parts x (xs ++ ys) behind octets h in
    let more = integers-split xs ys behind first.0 first.1.1 in
    (more.0, (integers-cons x xs first.0 more.0 octets first.1.0 more.1.0, more.1.1))

pub integers-append : (xs ys rest behind octets : List ℕ) → AreIntegers xs rest octets → AreIntegers ys behind rest
    → AreIntegers (xs ++ ys) behind octets
integers-append [] ys rest behind octets a b = subst (AreIntegers ys behind) (sym (integers-nil rest octets a)) b
integers-append (x ∷ xs) ys rest behind octets a b =
    let first = integers-parts x xs rest octets a in
    integers-cons x (xs ++ ys) first.0 behind octets first.1.0 (integers-append xs ys rest behind first.0 first.1.1 b)

-- an INTEGER can be read in one way
pub integer-unique : (x y : ℕ) (r s octets : List ℕ) → IsInteger x r octets → IsInteger y s octets → (x ≡ y) × (r ≡ s)
integer-unique x y r s octets a b =
    let parts = element-unique 2 a.contents b.contents r s (sym a.written ∙ b.written) in
    (sym a.value ∙ ap os2ip parts.0 ∙ b.value, parts.1)

pub integers-unique : (xs ys r s octets : List ℕ) → length xs ≡ length ys → AreIntegers xs r octets → AreIntegers ys s octets
    → (xs ≡ ys) × (r ≡ s)
integers-unique [] [] r s octets e a b = (refl, sym (integers-nil r octets a) ∙ integers-nil s octets b)
integers-unique [] (y ∷ ys) r s octets e a b = absurd (omega arith)
integers-unique (x ∷ xs) [] r s octets e a b = absurd (omega arith)
integers-unique (x ∷ xs) (y ∷ ys) r s octets e a b =
    let first = integers-parts x xs r octets a in
    let second = integers-parts y ys s octets b in
    let same = integer-unique x y first.0 second.0 octets first.1.0 second.1.0 in
    let rest = subst (AreIntegers xs r) same.1 first.1.1 in
    let tails = integers-unique xs ys r s second.0 (omega arith) rest second.1.1 in
    (ap (λ k. k ∷ xs) same.0 ∙ ap (λ k. y ∷ k) tails.0, tails.1)

-- the contents of a SEQUENCE, as they are read
pub sequence-contents : (xs contents behind key : List ℕ) → IsSequence xs key → key ≡ element 0x30 contents ++ behind
    → AreIntegers xs [] contents × (behind ≡ [])
sequence-contents xs contents behind key s e =
    let parts = element-unique 0x30 s.contents contents [] behind (append-nil (element 0x30 s.contents) ∙ sym s.written ∙ e) in
    (subst (AreIntegers xs []) parts.0 s.integers, sym parts.1)

pub sequence-written : (xs key : List ℕ) (s : IsSequence xs key) → key ≡ element 0x30 s.contents ++ []
sequence-written xs key s = s.written ∙ sym (append-nil (element 0x30 s.contents))

pub sequence-unique : (xs ys key : List ℕ) → length xs ≡ length ys → IsSequence xs key → IsSequence ys key → xs ≡ ys
sequence-unique xs ys key e a b =
    (integers-unique xs ys [] [] b.contents e (sequence-contents xs b.contents [] key a (sequence-written ys key b)).0 b.integers).0

-- what is read of the first INTEGERs leaves the others
pub integers-next : (xs ys zs rest behind octets : List ℕ) → AreIntegers (xs ++ ys) behind octets
    → AreIntegers zs rest octets → length xs ≡ length zs → (xs ≡ zs) × AreIntegers ys behind rest
integers-next xs ys zs rest behind octets a b e =
    let parts = integers-split xs ys behind octets a in
    let same = integers-unique xs zs parts.0 rest octets e parts.1.0 b in
    (same.0, subst (AreIntegers ys behind) same.1 parts.1.1)
