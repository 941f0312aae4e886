-- Lengths and elements.
use Rattle.std.proofs.Common.{◌≡◌, ◌≢◌, ◌⊎◌, ℕ, ◌+◌, ◌*◌, ◌/◌, ◌%◌, ◌<◌, ◌≤◌, inl, inr, List, [], ◌∷◌, ◌++◌, length, get_or, take, drop, refl, sym, ◌∙◌, ap, append_assoc, length-append, arith}
use Rattle.std.proofs.lemmas.Bool.Decides.{nat_tests}
use Rattle.std.proofs.lemmas.List.{append-nil, append_cancel_left, drop-drop, drop_at, take_at}
use Rattle.paseto_der.specs.Element.{behind_of, contents_of, der_length, element, length_of, length_size}

pub der-short : (n : ℕ) → n < 128 → der_length n ≡ n ∷ []
unfolding der_length
der-short n h = grind (arith, nat_tests)

pub der-one : (n : ℕ) → 128 ≤ n → n < 256 → der_length n ≡ 0x81 ∷ n ∷ []
unfolding der_length
der-one n h k = grind (arith, nat_tests)

pub der-two : (n : ℕ) → 256 ≤ n → der_length n ≡ 0x82 ∷ n / 256 ∷ n % 256 ∷ []
unfolding der_length
der-two n h = grind (arith, nat_tests)

cases : (n : ℕ) → (n < 128) ⊎ (((128 ≤ n) × (n < 256)) ⊎ (256 ≤ n))
cases n = grind (arith, nat_tests)

-- what the first octets tell
data Reads (n : ℕ) (octets : List ℕ) : Type 0 where
  short : n < 128 → 1 ≤ length octets → get_or octets 0 0 ≡ n → Reads n octets
  one : 128 ≤ n → n < 256 → 2 ≤ length octets → get_or octets 0 0 ≡ 0x81 → get_or octets 1 0 ≡ n → Reads n octets
  two : 256 ≤ n → 3 ≤ length octets → get_or octets 0 0 ≡ 0x82 → 256 * get_or octets 1 0 + get_or octets 2 0 ≡ n → Reads n octets

reads : (n : ℕ) (behind octets : List ℕ) → octets ≡ der_length n ++ behind → Reads n octets
reads n behind octets e = elim (cases n) [
  | inl low ↦
      (let o : octets ≡ n ∷ behind = e ∙ ap (λ d. d ++ behind) (der-short n low) in
      short low (rw o (omega arith)) (ap (λ d. get_or d 0 0) o))
  | inr high ↦ elim high [
    | inl middle ↦
        (let o : octets ≡ 0x81 ∷ n ∷ behind = e ∙ ap (λ d. d ++ behind) (der-one n middle.0 middle.1) in
        one middle.0 middle.1 (rw o (omega arith)) (ap (λ d. get_or d 0 0) o) (ap (λ d. get_or d 1 0) o))
    | inr large ↦
        (let o : octets ≡ 0x82 ∷ n / 256 ∷ n % 256 ∷ behind = e ∙ ap (λ d. d ++ behind) (der-two n large) in
        two large (rw o (omega arith)) (ap (λ d. get_or d 0 0) o) (ap (λ d. 256 * get_or d 1 0 + get_or d 2 0) o ∙ omega arith))
  ]
]

pub none-empty : (n : ℕ) (behind octets : List ℕ) → length octets ≡ 0 → octets ≡ der_length n ++ behind → ⊥
none-empty n behind octets h e = elim (reads n behind octets e) [
  | short a b c ↦ omega arith
  | one a b c d f ↦ omega arith
  | two a b c d ↦ omega arith
]

pub none-other : (n : ℕ) (behind octets : List ℕ) → 128 ≤ get_or octets 0 0 → get_or octets 0 0 ≢ 0x81 → get_or octets 0 0 ≢ 0x82
    → octets ≡ der_length n ++ behind → ⊥
none-other n behind octets high first second e = elim (reads n behind octets e) [
  | short a b c ↦ omega arith
  | one a b c d f ↦ first d
  | two a b c d ↦ second c
]

pub none-one : (n : ℕ) (behind octets : List ℕ) → get_or octets 0 0 ≡ 0x81 → octets ≡ der_length n ++ behind
    → (2 ≤ length octets) × (128 ≤ get_or octets 1 0)
none-one n behind octets first e = elim (reads n behind octets e) [
  | short a b c ↦ absurd (omega arith)
  | one a b c d f ↦ (c, omega arith)
  | two a b c d ↦ absurd (omega arith)
]

pub none-two : (n : ℕ) (behind octets : List ℕ) → get_or octets 0 0 ≡ 0x82 → octets ≡ der_length n ++ behind
    → (3 ≤ length octets) × (256 ≤ 256 * get_or octets 1 0 + get_or octets 2 0)
none-two n behind octets first e = elim (reads n behind octets e) [
  | short a b c ↦ absurd (omega arith)
  | one a b c d f ↦ absurd (omega arith)
  | two a b c d ↦ (b, omega arith)
]

pub some-short : (octets : List ℕ) → 0 < length octets → get_or octets 0 0 < 128 → octets ≡ der_length (get_or octets 0 0) ++ drop 1 octets
some-short [] some low = absurd (omega arith)
some-short (x ∷ xs) some low = sym (ap (λ d. d ++ xs) (der-short x low))

pub some-one : (octets : List ℕ) → 2 ≤ length octets → get_or octets 0 0 ≡ 0x81 → 128 ≤ get_or octets 1 0 → get_or octets 1 0 < 256
    → octets ≡ der_length (get_or octets 1 0) ++ drop 2 octets
some-one [] some first low high = absurd (omega arith)
some-one (x ∷ []) some first low high = absurd (omega arith)
some-one (x ∷ (y ∷ ys)) some first low high =
    ap (λ k. k ∷ y ∷ ys) first ∙ sym (ap (λ d. d ++ ys) (der-one y low high))

pub some-two : (octets : List ℕ) → 3 ≤ length octets → get_or octets 0 0 ≡ 0x82 → 256 ≤ 256 * get_or octets 1 0 + get_or octets 2 0
    → get_or octets 2 0 < 256
    → octets ≡ der_length (256 * get_or octets 1 0 + get_or octets 2 0) ++ drop 3 octets
some-two [] some first low high = absurd (omega arith)
some-two (x ∷ []) some first low high = absurd (omega arith)
some-two (x ∷ (y ∷ [])) some first low high = absurd (omega arith)
some-two (x ∷ (y ∷ (z ∷ zs))) some first low high =
    let n : ℕ = 256 * y + z in
    let upper : n / 256 ≡ y = omega arith in
    let lower : n % 256 ≡ z = omega arith in
    ap (λ k. k ∷ y ∷ z ∷ zs) first ∙ ap (λ k. 0x82 ∷ k ∷ z ∷ zs) (sym upper) ∙ ap (λ k. 0x82 ∷ n / 256 ∷ k ∷ zs) (sym lower)
    ∙ sym (ap (λ d. d ++ zs) (der-two n low))

size-of : (n : ℕ) (octets : List ℕ) → Reads n octets → length_size octets ≡ length (der_length n)
unfolding length_size
size-of n octets r = elim r [
  | short a b c ↦ rw (der-short n a) (grind (arith, nat_tests))
  | one a b c d f ↦ rw (d, der-one n a b) refl
  | two a b c d ↦ rw (c, der-two n a) refl
]

decodes : (n : ℕ) (octets : List ℕ) → Reads n octets → length_of octets ≡ n
unfolding length_of
decodes n octets r = elim r [
  | short a b c ↦ rw c (grind (arith, nat_tests))
  | one a b c d f ↦ rw (d, f) refl
  | two a b c d ↦ rw c d
]

pub der-unique : (n m : ℕ) (r s : List ℕ) → der_length n ++ r ≡ der_length m ++ s → (n ≡ m) × (r ≡ s)
der-unique n m r s e =
    let first = decodes n (der_length n ++ r) (reads n r (der_length n ++ r) refl) in
    let second = decodes m (der_length m ++ s) (reads m s (der_length m ++ s) refl) in
    let same : n ≡ m = sym first ∙ ap length_of e ∙ second in
    (same, append_cancel_left (der_length n) r s (e ∙ ap (λ k. der_length k ++ s) (sym same)))

pub element-is : (tag : ℕ) (contents behind : List ℕ)
    → element tag contents ++ behind ≡ tag ∷ (der_length (length contents) ++ (contents ++ behind))
unfolding element
element-is tag contents behind = ap (λ d. tag ∷ d) (append_assoc (der_length (length contents)) contents behind)

-- an element can be read in one way
pub element-unique : (tag : ℕ) (a b r s : List ℕ) → element tag a ++ r ≡ element tag b ++ s → (a ≡ b) × (r ≡ s)
element-unique tag a b r s e =
    let whole : tag ∷ (der_length (length a) ++ (a ++ r)) ≡ tag ∷ (der_length (length b) ++ (b ++ s)) =
    sym (element-is tag a r) ∙ e ∙ element-is tag b s in
    let rest : der_length (length a) ++ (a ++ r) ≡ der_length (length b) ++ (b ++ s) = ap (drop 1) whole in
    let parts = der-unique (length a) (length b) (a ++ r) (b ++ s) rest in
    let size : length a ≡ length b = parts.0 in
    let joined : a ++ r ≡ b ++ s = parts.1 in (
      sym (take_at a r (length a) refl) ∙ ap (take (length a)) joined ∙ take_at b s (length a) (sym size),
      sym (drop_at a r (length a) refl) ∙ ap (drop (length a)) joined ∙ drop_at b s (length a) (sym size),
    )

-- an element is not empty, and its first octet is its tag
pub element-first : (tag : ℕ) (contents behind octets : List ℕ) → octets ≡ element tag contents ++ behind
    → (0 < length octets) × (get_or octets 0 0 ≡ tag)
element-first tag contents behind octets e =
    let o = e ∙ element-is tag contents behind in
    (rw o (omega arith), ap (λ d. get_or d 0 0) o)

pub element-rest : (tag : ℕ) (contents behind octets : List ℕ) → octets ≡ element tag contents ++ behind
    → drop 1 octets ≡ der_length (length contents) ++ (contents ++ behind)
element-rest tag contents behind octets e = ap (drop 1) (e ∙ element-is tag contents behind)

-- the contents are as long as the length says
pub element-long : (tag n : ℕ) (contents behind octets rest : List ℕ) → octets ≡ element tag contents ++ behind
    → drop 1 octets ≡ der_length n ++ rest → n ≤ length rest
element-long tag n contents behind octets rest e h =
    let parts = der-unique n (length contents) rest (contents ++ behind) (sym h ∙ element-rest tag contents behind octets e) in
    rw (parts.0, parts.1, length-append) (omega arith)

pub element-of : (tag n : ℕ) (contents behind octets rest : List ℕ) → 0 < length octets → get_or octets 0 0 ≡ tag
    → drop 1 octets ≡ der_length n ++ rest → rest ≡ contents ++ behind → length contents ≡ n
    → octets ≡ element tag contents ++ behind
element-of tag n contents behind [] rest some first h split size = absurd (omega arith)
element-of tag n contents behind (x ∷ xs) rest some first h split size =
    ap (λ k. k ∷ xs) first
    ∙ ap (λ d. tag ∷ d) (h ∙ ap (λ d. der_length n ++ d) split ∙ ap (λ k. der_length k ++ (contents ++ behind)) (sym size))
    ∙ sym (element-is tag contents behind)

-- the parts of an element
rest-of : (tag : ℕ) (contents behind : List ℕ) → drop 1 (element tag contents ++ behind) ≡ der_length (length contents) ++ (contents ++ behind)
rest-of tag contents behind = ap (drop 1) (element-is tag contents behind)

pub contents-is : (tag : ℕ) (contents behind octets : List ℕ) → octets ≡ element tag contents ++ behind → contents_of octets ≡ contents
contents-is tag contents behind octets e =
    let rest : List ℕ = der_length (length contents) ++ (contents ++ behind) in
    let r = reads (length contents) (contents ++ behind) rest refl in
    let size = size-of (length contents) rest r in
    ap contents_of e ∙ ap (λ l. take (length_of l) (drop (length_size l) l)) (rest-of tag contents behind)
    ∙ ap (λ k. take k (drop (length_size rest) rest)) (decodes (length contents) rest r)
    ∙ ap (take (length contents)) (drop_at (der_length (length contents)) (contents ++ behind) (length_size rest) (sym size))
    ∙ take_at contents behind (length contents) refl

pub behind-is : (tag : ℕ) (contents behind octets : List ℕ) → octets ≡ element tag contents ++ behind → behind_of octets ≡ behind
behind-is tag contents behind octets e =
    let rest : List ℕ = der_length (length contents) ++ (contents ++ behind) in
    let r = reads (length contents) (contents ++ behind) rest refl in
    let size = size-of (length contents) rest r in
    ap behind_of e ∙ ap (λ l. drop (length_size l + length_of l) l) (rest-of tag contents behind)
    ∙ ap (λ k. drop (length_size rest + k) rest) (decodes (length contents) rest r)
    ∙ sym (drop-drop (length contents) (length_size rest) rest)
    ∙ ap (drop (length contents)) (drop_at (der_length (length contents)) (contents ++ behind) (length_size rest) (sym size))
    ∙ drop_at contents behind (length contents) refl

pub element-whole : (tag : ℕ) (contents octets : List ℕ) → octets ≡ element tag contents → octets ≡ element tag contents ++ []
element-whole tag contents octets e = e ∙ sym (append-nil (element tag contents))

pub element-exact : (tag : ℕ) (contents behind octets : List ℕ) → octets ≡ element tag contents ++ behind → behind ≡ []
    → octets ≡ element tag contents
element-exact tag contents behind octets e none = e ∙ ap (λ b. element tag contents ++ b) none ∙ append-nil (element tag contents)
