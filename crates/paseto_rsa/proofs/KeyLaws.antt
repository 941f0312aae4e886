-- Keys in their encodings.
use Rattle.std.proofs.Common.{◌≡◌, ℕ, ◌-◌, ◌≤◌, List, [], ◌∷◌, ◌++◌, length, get_or, take, drop, refl, sym, ◌∙◌, ap, ap₂, subst, append_assoc, length-append, arith}
use Rattle.std.proofs.lemmas.List.{drop_at, take-append-drop, take_at}
use Rattle.paseto_der.specs.Element.{behind_of, contents_of, der_length, element}
use Rattle.paseto_rsa.specs.Forms.{algorithm}
use Rattle.paseto_rsa.specs.Integers.{IsSequence}
use Rattle.sha2.specs.Sha512.{sha384}
use Rattle.paseto_rsa.specs.Keys.{IsPrivateKey, IsPublicKey, PrivateNumbers, first_two, key_front, rsa_private, rsa_public}
use Rattle.paseto_rsa.specs.Rsa.{IsPssSignature, pss_sign}
use Rattle.paseto_rsa.specs.RsaPss.{HasNoSignature, IsSigned, RsaPssVerifies}
use Rattle.paseto_der.proofs.ElementLaws.{behind-is, contents-is, element-exact, element-unique, element-whole}
use Rattle.paseto_rsa.proofs.IntegerLaws.{integers-cons, integers-none, integers-parts, sequence-unique}

-- the octets before a key
pub front-octets : key_front
    ≡ 0x02 ∷ 0x01 ∷ 0x00 ∷ 0x30 ∷ 0x0d ∷ 0x06 ∷ 0x09 ∷ 0x2a ∷ 0x86 ∷ 0x48 ∷ 0x86 ∷ 0xf7 ∷ 0x0d ∷ 0x01 ∷ 0x01 ∷ 0x01 ∷ 0x05 ∷ 0x00 ∷ []
unfolding key_front element der_length
front-octets = refl

pub front-size : length key_front ≡ 18
front-size = ap length front-octets

-- what a PrivateKeyInfo has for contents, as it is read
pub info-contents : (inner contents behind key : List ℕ) → key ≡ element 0x30 (key_front ++ element 0x04 inner)
    → key ≡ element 0x30 contents ++ behind
    → (contents ≡ key_front ++ element 0x04 inner) × (behind ≡ [])
info-contents inner contents behind key e read =
    let parts = element-unique 0x30 contents (key_front ++ element 0x04 inner) behind [] (sym read ∙ element-whole 0x30 _ key e) in
    (parts.0, parts.1)

pub info-front : (inner contents : List ℕ) → contents ≡ key_front ++ element 0x04 inner → take 18 contents ≡ key_front
info-front inner contents e = ap (take 18) e ∙ take_at key_front (element 0x04 inner) 18 front-size

pub info-rest : (inner contents : List ℕ) → contents ≡ key_front ++ element 0x04 inner → drop 18 contents ≡ element 0x04 inner
info-rest inner contents e = ap (drop 18) e ∙ drop_at key_front (element 0x04 inner) 18 front-size

pub info-long : (inner contents : List ℕ) → contents ≡ key_front ++ element 0x04 inner → 18 ≤ length contents
info-long inner contents e = omega (arith, ap length e, length-append key_front (element 0x04 inner), front-size)

pub info-of : (inner contents behind key : List ℕ) → key ≡ element 0x30 contents ++ behind → behind ≡ []
    → take 18 contents ≡ key_front → drop 18 contents ≡ element 0x04 inner
    → key ≡ element 0x30 (key_front ++ element 0x04 inner)
info-of inner contents behind key read none front rest =
    element-exact 0x30 contents behind key read none
    ∙ ap (element 0x30) (sym (take-append-drop 18 contents) ∙ ap₂ (λ (a b : List ℕ). a ++ b) front rest)

-- what stands in a PrivateKeyInfo
pub inner-unique : (a b key : List ℕ) → key ≡ element 0x30 (key_front ++ element 0x04 a) → key ≡ element 0x30 (key_front ++ element 0x04 b)
    → a ≡ b
inner-unique a b key first second =
    let info = element-unique 0x30 (key_front ++ element 0x04 a) (key_front ++ element 0x04 b) [] []
    (sym (element-whole 0x30 _ key first) ∙ element-whole 0x30 _ key second) in
    let rest : element 0x04 a ≡ element 0x04 b = sym (info-rest a _ refl) ∙ ap (drop 18) info.0 ∙ info-rest b _ refl in
    (element-unique 0x04 a b [] [] (ap (λ l. l ++ []) rest)).0

-- the INTEGERs of a private key
abbrev pub integers_of : PrivateNumbers → List ℕ
integers_of k = 0 ∷ k.n ∷ k.e ∷ k.d ∷ k.p ∷ k.q ∷ k.dp ∷ k.dq ∷ k.qinv ∷ []

numbers_of : List ℕ → PrivateNumbers
numbers_of l = record {
  n = get_or l 1 0;
  e = get_or l 2 0;
  d = get_or l 3 0;
  p = get_or l 4 0;
  q = get_or l 5 0;
  dp = get_or l 6 0;
  dq = get_or l 7 0;
  qinv = get_or l 8 0;
}

numbers-back : (k : PrivateNumbers) → numbers_of (integers_of k) ≡ k
unfolding numbers_of
numbers-back k = refl

-- a private key has the numbers that were read
pub numbers-unique : (j k : PrivateNumbers) (key : List ℕ) → IsPrivateKey j key → IsPrivateKey k key → j ≡ k
numbers-unique j k key a b =
    let inner = inner-unique a.inner b.inner key a.written b.written in
    let same = sequence-unique (integers_of j) (integers_of k) b.inner refl (subst (IsSequence (integers_of j)) inner a.integers) b.integers in
    sym (numbers-back j) ∙ ap numbers_of same ∙ numbers-back k

-- a valid signature is valid for the numbers that were read
pub valid-by : (n e : ℕ) (public message signature : List ℕ) → IsPublicKey n e public
    → RsaPssVerifies public message signature → IsPssSignature n e (sha384 message) signature
valid-by n e public message signature key v =
    let same = sequence-unique (v.n ∷ v.e ∷ []) (n ∷ e ∷ []) public refl v.key key in
    let first : v.n ≡ n = ap (λ l. get_or l 0 0) same in
    let second : v.e ≡ e = ap (λ l. get_or l 1 0) same in
    subst (λ (k : ℕ). IsPssSignature n k (sha384 message) signature) second
    (subst (λ (k : ℕ). IsPssSignature k v.e (sha384 message) signature) first v.valid)

-- the version, the algorithm, and what is behind them
pub front-parts : (rest : List ℕ) → key_front ++ rest ≡ element 0x02 (0 ∷ []) ++ (element 0x30 algorithm ++ rest)
unfolding key_front algorithm
front-parts rest = append_assoc (element 0x02 (0 ∷ [])) (element 0x30 algorithm) rest

-- the RSAPrivateKey, as it is found
pub inner-found : (inner key : List ℕ) → key ≡ element 0x30 (key_front ++ element 0x04 inner) → rsa_private key ≡ inner
unfolding rsa_private
inner-found inner key e =
    let string = element 0x04 inner in
    let info = contents-is 0x30 (key_front ++ string) [] key (element-whole 0x30 _ key e) in
    let first = behind-is 0x02 (0 ∷ []) (element 0x30 algorithm ++ string) (contents_of key) (info ∙ front-parts string) in
    let second = behind-is 0x30 algorithm string (behind_of (contents_of key)) first in
    contents-is 0x04 inner [] (behind_of (behind_of (contents_of key))) (element-whole 0x04 inner _ second)

-- the first two INTEGERs, as they are found
two-found : (a b rest octets : List ℕ) → octets ≡ element 0x02 a ++ (element 0x02 b ++ rest)
    → first_two octets ≡ element 0x02 a ++ element 0x02 b
two-found a b rest octets e =
    let first = behind-is 0x02 a (element 0x02 b ++ rest) octets e in
    let second = behind-is 0x02 b rest (behind_of octets) first in
    let both : List ℕ = element 0x02 a ++ element 0x02 b in
    let whole : octets ≡ both ++ rest = e ∙ sym (append_assoc (element 0x02 a) (element 0x02 b) rest) in
    let size : length octets - length (behind_of (behind_of octets)) ≡ length both =
    omega (arith, ap length whole, length-append both rest, ap length second) in
    ap (λ k. take k octets) size ∙ ap (take (length both)) whole ∙ take_at both rest (length both) refl

-- the public key of a private key is that of its numbers
pub public-of : (k : PrivateNumbers) (key : List ℕ) → IsPrivateKey k key → IsPublicKey k.n k.e (rsa_public key)
unfolding rsa_public
public-of k key p =
    let contents : List ℕ = p.integers.contents in
    let zero = integers-parts 0 _ [] contents p.integers.integers in
    let first = integers-parts k.n _ [] zero.0 zero.1.1 in
    let second = integers-parts k.e _ [] first.0 first.1.1 in
    let a : List ℕ = first.1.0.contents in
    let b : List ℕ = second.1.0.contents in
    let inner = inner-found p.inner key p.written in
    let sequence = contents-is 0x30 contents [] p.inner (element-whole 0x30 contents p.inner p.integers.written) in
    let behind = behind-is 0x02 zero.1.0.contents zero.0 contents zero.1.0.written in
    let found = ap (λ l. behind_of (contents_of l)) inner ∙ ap behind_of sequence ∙ behind in
    let octets : zero.0 ≡ element 0x02 a ++ (element 0x02 b ++ second.0) =
    first.1.0.written ∙ ap (λ l. element 0x02 a ++ l) second.1.0.written in
    let both = two-found a b second.0 zero.0 octets in
    record {
      contents = element 0x02 a ++ element 0x02 b;
      written = ap (λ l. element 0x30 (first_two l)) found ∙ ap (element 0x30) both;
      integers =
          integers-cons k.n (k.e ∷ []) (element 0x02 b) [] _
          (record { contents = a; shortest = first.1.0.shortest; value = first.1.0.value; written = refl })
          (integers-cons k.e [] [] [] _
          (record { contents = b; shortest = second.1.0.shortest; value = second.1.0.value; written = element-whole 0x02 b _ refl })
          (integers-none [] [] refl));
    }

-- what is signed by a private key is what its numbers make
pub signed-is : (k : PrivateNumbers) (private message salt made hash bytes result : List ℕ) → IsPrivateKey k private
    → hash ≡ sha384 message → bytes ≡ salt → result ≡ pss_sign k hash bytes → IsSigned private message salt made → made ≡ result
signed-is k private message salt made hash bytes result read digest drawn signed s =
    s.made ∙ ap (λ j. pss_sign j (sha384 message) salt) (numbers-unique s.numbers k private s.read read)
    ∙ ap (λ h. pss_sign k h salt) (sym digest) ∙ ap (pss_sign k hash) (sym drawn) ∙ sym signed

-- where what the numbers of a private key make is not valid, the key has no signature
pub no-signature : (k : PrivateNumbers) (private message salt hash bytes result : List ℕ) → IsPrivateKey k private
    → hash ≡ sha384 message → bytes ≡ salt → result ≡ pss_sign k hash bytes → (¬ IsPssSignature k.n k.e hash result)
    → HasNoSignature private message salt
unfolding HasNoSignature
no-signature k private message salt hash bytes result read digest drawn signed none made s v =
    let e = signed-is k private message salt made hash bytes result read digest drawn signed s in
    let valid = valid-by k.n k.e (rsa_public private) message made (public-of k private read) v in
    none (subst (λ (h : List ℕ). IsPssSignature k.n k.e h result) (sym digest) (subst (λ (l : List ℕ). IsPssSignature k.n k.e (sha384 message) l) e valid))
