-- Keys with their algorithm, in DER.
use Rattle.std.proofs.Common.{◌≡◌, ◌≢◌, ℕ, ◌+◌, ◌<◌, ◌≤◌, inl, inr, List, [], ◌∷◌, ◌++◌, length, drop, get_or, refl, sym, ap, ◌∙◌, append_assoc, length-append, arith}
use Rattle.std.proofs.lemmas.Bool.Decides.{nat_tests}
use Rattle.std.proofs.lemmas.List.{append-nil}
use Rattle.paseto_der.specs.Element.{der_length, element}
use Rattle.paseto_der.proofs.ElementLaws.{element-first, element-unique}
use Rattle.paseto_pem.specs.Info.{AreAttributes, IsPrivateInfo, private_key_info, public_key_info, public_of, version_of}
use Rattle.std.specs.Prelude.{MatchOption, Option, None, Some}
use Rattle.std.specs.Borrow.{Bor}

pub element-same : (tag : ℕ) (a b : List ℕ) → element tag a ≡ element tag b → a ≡ b
element-same tag a b e = (element-unique tag a b [] [] (ap (λ (l : List ℕ). l ++ []) e)).0

pub version-octets : 0x02 ∷ 0x01 ∷ 0x00 ∷ [] ≡ element 0x02 (0 ∷ [])
unfolding element der_length
version-octets = refl

pub version-length : length (element 0x02 (0 ∷ [])) ≡ 3
version-length = ap length (sym version-octets)

-- the octets of an element, written one after the other
pub pushed-element : (tag : ℕ) (contents out : List ℕ)
    → ((out ++ tag ∷ []) ++ der_length (length contents)) ++ contents ≡ out ++ element tag contents
unfolding element
pushed-element tag contents out =
    let size = der_length (length contents) in
    ap (λ l. l ++ contents) (append_assoc out (tag ∷ []) size) ∙ append_assoc out (tag ∷ size) contents

length-short : (n : ℕ) → length (der_length n) ≤ 3
unfolding der_length
length-short n = grind (arith, nat_tests)

-- at most four octets stand before the contents
pub element-most : (tag : ℕ) (contents : List ℕ) → length (element tag contents) ≤ 4 + length contents
unfolding element
element-most tag contents =
    omega (arith, length-append (tag ∷ der_length (length contents)) contents, length-short (length contents))

pub private-is : (algorithm key : List ℕ)
    → private_key_info algorithm key ≡ element 0x30 (element 0x02 (0 ∷ []) ++ (element 0x30 algorithm ++ element 0x04 key))
unfolding private_key_info
private-is algorithm key = refl

pub public-is : (algorithm key : List ℕ)
    → public_key_info algorithm key ≡ element 0x30 (element 0x30 algorithm ++ element 0x03 (0 ∷ key))
unfolding public_key_info
public-is algorithm key = refl

-- what a SubjectPublicKeyInfo has for contents
pub public-contents : (algorithm key contents octets : List ℕ) → octets ≡ public_key_info algorithm key
    → octets ≡ element 0x30 contents → contents ≡ element 0x30 algorithm ++ element 0x03 (0 ∷ key)
public-contents algorithm key contents octets e read =
    element-same 0x30 contents _ (sym read ∙ e ∙ public-is algorithm key)

pub public-of : (algorithm key contents octets behind bits : List ℕ) → octets ≡ element 0x30 contents
    → contents ≡ element 0x30 algorithm ++ behind → behind ≡ element 0x03 bits → bits ≡ 0 ∷ key
    → octets ≡ public_key_info algorithm key
public-of algorithm key contents octets behind bits read first second third =
    let body : contents ≡ element 0x30 algorithm ++ element 0x03 (0 ∷ key) =
    first ∙ ap (λ b. element 0x30 algorithm ++ b) (second ∙ ap (element 0x03) third) in
    read ∙ ap (element 0x30) body ∙ sym (public-is algorithm key)

-- an algorithm and a key in the fewest octets
pub two-elements : (first second : ℕ) (algorithm key front : List ℕ) → length front ≤ 3 → length algorithm + length key < 65001
    → length ((front ++ element first algorithm) ++ element second key) < 65536
two-elements first second algorithm key front small sum =
    let a = element-most first algorithm in
    let b = element-most second key in
    omega (arith, length-append (front ++ element first algorithm) (element second key), length-append front (element first algorithm), a, b)

-- ---- what a OneAsymmetricKey has

-- no element has two tags
other-tag : (a b : ℕ) (x y r s : List ℕ) → a ≢ b → element a x ++ r ≡ element b y ++ s → ⊥
other-tag a b x y r s other e =
    let first = (element-first a x r (element a x ++ r) refl).1 in
    let second = (element-first b y s (element a x ++ r) e).1 in
    other (sym first ∙ second)

some-element : (tag : ℕ) (x r : List ℕ) → element tag x ++ r ≡ [] → ⊥
some-element tag x r e =
    let some = (element-first tag x r (element tag x ++ r) refl).0 in
    let none : length (element tag x ++ r) ≡ 0 = ap length e in
    omega (arith, some, none)

-- an element is not what stands for a public key, if its tag is another one
public-other : (public : Option (List ℕ)) (x r : List ℕ) → element 0xa0 x ++ r ≡ public_of public → ⊥
public-other None x r e = some-element 0xa0 x r e
public-other (Some public) x r e =
    other-tag 0xa0 0x81 x (0 ∷ public) r [] (λ same. omega arith) (e ∙ sym (append-nil (element 0x81 (0 ∷ public))))

-- behind the attributes stands the public key
pub behind-some : (attributes behind octets own : List ℕ) (public : Option (List ℕ)) → octets ≡ element 0xa0 attributes ++ behind
    → AreAttributes own → octets ≡ own ++ public_of public → behind ≡ public_of public
behind-some attributes behind octets own public e (inl none) split =
    absurd (public-other public attributes behind (sym e ∙ split ∙ ap (λ (l : List ℕ). l ++ public_of public) none))
behind-some attributes behind octets own public e (inr some) split =
    (element-unique 0xa0 attributes some.0 behind (public_of public)
    (sym e ∙ split ∙ ap (λ (l : List ℕ). l ++ public_of public) some.1)).1

pub behind-none : (octets own : List ℕ) (public : Option (List ℕ)) → ((attributes behind : List ℕ) → octets ≡ element 0xa0 attributes ++ behind → ⊥)
    → AreAttributes own → octets ≡ own ++ public_of public → octets ≡ public_of public
behind-none octets own public absent (inl none) split = split ∙ ap (λ (l : List ℕ). l ++ public_of public) none
behind-none octets own public absent (inr some) split =
    absurd (absent some.0 (public_of public) (split ∙ ap (λ (l : List ℕ). l ++ public_of public) some.1))

one-public : (p q : Option (List ℕ)) (a b : List ℕ) → AreAttributes a → AreAttributes b → a ++ public_of p ≡ b ++ public_of q → public_of p ≡ public_of q
one-public p q a b (inl none) h e =
    let plain : public_of p ≡ b ++ public_of q = ap (λ (l : List ℕ). l ++ public_of p) (sym none) ∙ e in
    elim h [
      | inl also ↦ plain ∙ ap (λ (l : List ℕ). l ++ public_of q) also
      | inr some ↦ absurd (public-other p some.0 (public_of q) (sym (plain ∙ ap (λ (l : List ℕ). l ++ public_of q) some.1)))
    ]
one-public p q a b (inr some) h e =
    let first : element 0xa0 some.0 ++ public_of p ≡ b ++ public_of q = ap (λ (l : List ℕ). l ++ public_of p) (sym some.1) ∙ e in
    behind-some some.0 (public_of p) (element 0xa0 some.0 ++ public_of p) b q refl h first

same-public : (p q : Option (List ℕ)) → version_of p ≡ version_of q → public_of p ≡ public_of q → p ≡ q
same-public None None v e = refl
same-public None (Some y) v e = absurd (omega (arith, v))
same-public (Some x) None v e = absurd (omega (arith, v))
same-public (Some x) (Some y) v e = ap (λ (l : List ℕ). Some (drop 1 l)) (element-same 0x81 (0 ∷ x) (0 ∷ y) e)

-- what it has behind each of its elements
pub info-contents : (algorithm key contents octets : List ℕ) (public : Option (List ℕ)) (p : IsPrivateInfo algorithm key public octets)
    → octets ≡ element 0x30 contents
    → contents ≡ element 0x02 (version_of public ∷ []) ++ (element 0x30 algorithm ++ (element 0x04 key ++ (p.attributes ++ public_of public)))
info-contents algorithm key contents octets public p read = element-same 0x30 contents _ (sym read ∙ p.written)

-- its algorithm and its keys can be read in one way
pub private-unique : (a b k l octets : List ℕ) (x y : Option (List ℕ)) → IsPrivateInfo a k x octets → IsPrivateInfo b l y octets
    → (a ≡ b) × (k ≡ l) × (x ≡ y)
private-unique a b k l octets x y p q =
    let whole = element-same 0x30 _ _ (sym p.written ∙ q.written) in
    let first = element-unique 0x02 (version_of x ∷ []) (version_of y ∷ []) _ _ whole in
    let second = element-unique 0x30 a b _ _ first.1 in
    let third = element-unique 0x04 k l _ _ second.1 in
    let version : version_of x ≡ version_of y = ap (λ (l : List ℕ). get_or l 0 0) first.0 in
    (second.0, third.0, same-public x y version (one-public x y p.attributes q.attributes p.passed q.passed third.1))

-- what is written is a OneAsymmetricKey
pub private-info : (algorithm key octets : List ℕ) → octets ≡ private_key_info algorithm key → IsPrivateInfo algorithm key None octets
private-info algorithm key octets e = record {
  attributes = [];
  passed = inl refl;
  written = e ∙ private-is algorithm key
      ∙ ap (λ (l : List ℕ). element 0x30 (element 0x02 (0 ∷ []) ++ (element 0x30 algorithm ++ l))) (sym (append-nil (element 0x04 key)));
}

pub public-unique : (a b k l octets : List ℕ) → octets ≡ public_key_info a k → octets ≡ public_key_info b l → (a ≡ b) × (k ≡ l)
public-unique a b k l octets e f =
    let whole = element-same 0x30 _ _ (sym (public-is a k) ∙ sym e ∙ f ∙ public-is b l) in
    let parts = element-unique 0x30 a b (element 0x03 (0 ∷ k)) (element 0x03 (0 ∷ l)) whole in
    let bits = element-same 0x03 (0 ∷ k) (0 ∷ l) parts.1 in
    (parts.0, ap (drop 1) bits)

-- what stands behind each element that was read of a OneAsymmetricKey
module _ (algorithm key octets contents : List ℕ) (public : Option (List ℕ)) (p : IsPrivateInfo algorithm key public octets)
    (read : octets ≡ element 0x30 contents) where
  pub info-first : contents ≡ element 0x02 (version_of public ∷ [])
      ++ (element 0x30 algorithm ++ (element 0x04 key ++ (p.attributes ++ public_of public)))
  info-first = info-contents algorithm key contents octets public p read

  module _ (version rest : List ℕ) (first : contents ≡ element 0x02 version ++ rest) where
    pub info-second : (version ≡ version_of public ∷ [])
        × (rest ≡ element 0x30 algorithm ++ (element 0x04 key ++ (p.attributes ++ public_of public)))
    info-second = element-unique 0x02 version (version_of public ∷ []) rest _ (sym first ∙ info-first)

    module _ (other behind : List ℕ) (second : rest ≡ element 0x30 other ++ behind) where
      pub info-third : (other ≡ algorithm) × (behind ≡ element 0x04 key ++ (p.attributes ++ public_of public))
      info-third = element-unique 0x30 other algorithm behind _ (sym second ∙ info-second.1)

      pub info-fourth : (found last : List ℕ) → behind ≡ element 0x04 found ++ last → (found ≡ key) × (last ≡ p.attributes ++ public_of public)
      info-fourth found last third = element-unique 0x04 found key last _ (sym third ∙ info-third.1)

-- a OneAsymmetricKey by its elements
pub info-made : (octets contents version rest algorithm behind key last own attributes : List ℕ) (public : Option (List ℕ))
    → octets ≡ element 0x30 contents → contents ≡ element 0x02 version ++ rest → rest ≡ element 0x30 algorithm ++ behind
    → behind ≡ element 0x04 key ++ last → AreAttributes attributes → last ≡ attributes ++ own
    → version ≡ version_of public ∷ [] → own ≡ public_of public → IsPrivateInfo algorithm key public octets
info-made octets contents version rest algorithm behind key last own attributes public read first second third are split is half = record {
  attributes = attributes;
  passed = are;
  written = read
      ∙ ap (element 0x30)
      (first ∙ ap (λ (v : List ℕ). element 0x02 v ++ rest) is
      ∙ ap (λ (l : List ℕ). element 0x02 (version_of public ∷ []) ++ l)
      (second
      ∙ ap (λ (l : List ℕ). element 0x30 algorithm ++ l)
      (third ∙ ap (λ (l : List ℕ). element 0x04 key ++ l) (split ∙ ap (λ (l : List ℕ). attributes ++ l) half))));
}

-- a public key, tagged, by the bits of its BIT STRING
pub tagged-answer : (octets bits : List ℕ) (r : Option (Bor (List ℕ))) → octets ≡ element 0x81 bits
    → MatchOption r ((rest : List ℕ) → bits ≢ 0 ∷ rest) (λ x. bits ≡ 0 ∷ x.now)
    → MatchOption r ((key : List ℕ) → octets ≢ element 0x81 (0 ∷ key)) (λ key. octets ≡ element 0x81 (0 ∷ key.now))
tagged-answer octets bits None read none = λ key e. none key (element-same 0x81 bits (0 ∷ key) (sym read ∙ e))
tagged-answer octets bits (Some x) read is = read ∙ ap (element 0x81) is
