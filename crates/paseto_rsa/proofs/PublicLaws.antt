-- The public key of a private key, and the RSAPrivateKey of one.
use Rattle.std.proofs.Common.{◌≡◌, ℕ, ◌+◌, ◌*◌, ◌/◌, ◌%◌, ◌^◌, ◌<◌, ◌≤◌, inl, inr, List, [], ◌∷◌, ◌++◌, length, drop, refl, sym, ◌∙◌, ap, ap₂, subst, length-append, rules, arith}
use Rattle.std.proofs.lemmas.Bool.{cases_lt}
use Rattle.std.proofs.lemmas.Bool.Decides.{nat_tests}
use Rattle.std.proofs.lemmas.List.{drop_at, take_at}
use Rattle.rusty_paseto_primitives.specs.Bytes.{IsBytes}
use Rattle.rusty_paseto_core.proofs.EncodingBytes.{IsBytes-known}
use Rattle.rusty_paseto_primitives.proofs.ByteLists.{IsBytes_cons, IsBytes-append, IsBytes-drop, IsBytes-nil, IsBytes-take}
use Rattle.paseto_der.specs.Element.{behind_of, contents_of, der_length, element}
use Rattle.paseto_der.proofs.ElementLaws.{der-two, element-whole}
use Rattle.paseto_montgomery.specs.Octets.{i2osp}
use Rattle.paseto_montgomery.proofs.OctetsLaws.{length-i2osp}
use Rattle.paseto_rsa.specs.Forms.{IsPublic, IsRsaPrivateKey, private_key_info, public_key_info}
use Rattle.paseto_rsa.specs.Integers.{AreIntegers, IsInteger, IsSequence}
use Rattle.paseto_rsa.specs.Keys.{IsInRange, IsPrivate, IsPrivateInRange, IsPrivateKey, IsPublicKey, PrivateNumbers, first_two, key_front, rsa_private, rsa_public}
use Rattle.paseto_rsa.proofs.FormLaws.{element-sized, private-info-is, public-info-is, public_front}
use Rattle.paseto_rsa.proofs.IntegerLaws.{integers-nil, integers-parts, least-long, sequence-contents}
use Rattle.paseto_rsa.proofs.KeyLaws.{front-octets, inner-found, integers_of, public-of}
use Rattle.paseto_rsa.proofs.LengthLaws.{exponent-octets, modulus-octets, modulus-size}

-- ---- what is cut from bytes

front-bytes : (xs ys : List ℕ) → IsBytes (xs ++ ys) → IsBytes xs
front-bytes xs ys h = subst IsBytes (take_at xs ys (length xs) refl) (IsBytes-take (length xs) (xs ++ ys) h)

back-bytes : (xs ys : List ℕ) → IsBytes (xs ++ ys) → IsBytes ys
back-bytes xs ys h = subst IsBytes (drop_at xs ys (length xs) refl) (IsBytes-drop (length xs) (xs ++ ys) h)

pub contents-bytes : (tag : ℕ) (contents : List ℕ) → IsBytes (element tag contents) → IsBytes contents
unfolding element
contents-bytes tag contents h = back-bytes (tag ∷ der_length (length contents)) contents h

contents_of-bytes : (octets : List ℕ) → IsBytes octets → IsBytes (contents_of octets)
contents_of-bytes octets h = IsBytes-take _ _ (IsBytes-drop _ (drop 1 octets) (IsBytes-drop 1 octets h))

behind_of-bytes : (octets : List ℕ) → IsBytes octets → IsBytes (behind_of octets)
behind_of-bytes octets h = IsBytes-drop _ (drop 1 octets) (IsBytes-drop 1 octets h)

pub rsa_private-bytes : (key : List ℕ) → IsBytes key → IsBytes (rsa_private key)
unfolding rsa_private
rsa_private-bytes key h = contents_of-bytes _ (behind_of-bytes _ (behind_of-bytes _ (contents_of-bytes key h)))

-- ---- public keys

-- the octets of an RSAPublicKey of a modulus of 2048 bits and the exponent 65537
abbrev pub public_octets : ℕ → List ℕ
public_octets n =
    (0x30 ∷ 0x82 ∷ 0x01 ∷ 0x0a ∷ 0x02 ∷ 0x82 ∷ 0x01 ∷ 0x01 ∷ 0x00 ∷ [])
    ++ (i2osp n 256 ++ (0x02 ∷ 0x03 ∷ 0x01 ∷ 0x00 ∷ 0x01 ∷ []))

modulus-is : (n : ℕ) → element 0x02 (0 ∷ i2osp n 256) ≡ (0x02 ∷ 0x82 ∷ 0x01 ∷ 0x01 ∷ 0x00 ∷ []) ++ i2osp n 256
unfolding der_length
modulus-is n = element-sized 0x02 257 (0 ∷ i2osp n 256) (omega (arith, length-i2osp n 256))

exponent-is : element 0x02 (1 ∷ 0 ∷ 1 ∷ []) ≡ 0x02 ∷ 0x03 ∷ 0x01 ∷ 0x00 ∷ 0x01 ∷ []
unfolding element der_length
exponent-is = refl

pub both-is : (n : ℕ) (contents : List ℕ) → contents ≡ element 0x02 (0 ∷ i2osp n 256) ++ element 0x02 (1 ∷ 0 ∷ 1 ∷ [])
    → element 0x30 contents ≡ public_octets n
unfolding der_length
both-is n contents e =
    let back : List ℕ = 0x02 ∷ 0x03 ∷ 0x01 ∷ 0x00 ∷ 0x01 ∷ [] in
    let front : List ℕ = 0x02 ∷ 0x82 ∷ 0x01 ∷ 0x01 ∷ 0x00 ∷ [] in
    let whole : contents ≡ (front ++ i2osp n 256) ++ back = e ∙ ap₂ (λ (a b : List ℕ). a ++ b) (modulus-is n) exponent-is in
    let size : length contents ≡ 266 =
    ap length whole ∙ omega (arith, length-append (front ++ i2osp n 256) back, length-append front (i2osp n 256), length-i2osp n 256) in
    element-sized 0x30 266 contents size ∙ ap (λ l. (0x30 ∷ 0x82 ∷ 0x01 ∷ 0x0a ∷ []) ++ l) whole

-- an RSAPublicKey has these octets
pub public-octets : (n e : ℕ) (contents key : List ℕ) → IsInRange n e → IsPublicKey n e key → key ≡ element 0x30 contents → IsBytes contents
    → key ≡ public_octets n
public-octets n e contents key range p written bytes =
    let integers = (sequence-contents (n ∷ e ∷ []) contents [] key p (element-whole 0x30 contents key written)).0 in
    let first = integers-parts n (e ∷ []) [] contents integers in
    let second = integers-parts e [] [] first.0 first.1.1 in
    let a : List ℕ = first.1.0.contents in
    let b : List ℕ = second.1.0.contents in
    let parts : IsBytes (element 0x02 a ++ first.0) = subst IsBytes first.1.0.written bytes in
    let rest : IsBytes (element 0x02 b ++ second.0) = subst IsBytes second.1.0.written (back-bytes (element 0x02 a) first.0 parts) in
    let a_is = modulus-octets n a (contents-bytes 0x02 a (front-bytes (element 0x02 a) first.0 parts)) first.1.0.shortest first.1.0.value range.full range.below in
    let b_is = exponent-octets b (contents-bytes 0x02 b (front-bytes (element 0x02 b) second.0 rest)) second.1.0.shortest (second.1.0.value ∙ range.exponent) in
    let none : second.0 ≡ [] = integers-nil [] second.0 second.1.1 in
    let last : first.0 ≡ element 0x02 (1 ∷ 0 ∷ 1 ∷ []) =
    second.1.0.written ∙ ap (λ l. element 0x02 b ++ l) none ∙ sym (element-whole 0x02 b _ refl) ∙ ap (element 0x02) b_is in
    written
    ∙ both-is n contents (first.1.0.written ∙ ap₂ (λ (x y : List ℕ). element 0x02 x ++ y) a_is last)

-- the public key of a private key
pub rsa_public-is : (k : PrivateNumbers) (key : List ℕ) → IsBytes key → IsInRange k.n k.e → IsPrivateKey k key
    → rsa_public key ≡ public_octets k.n
unfolding rsa_public
rsa_public-is k key bytes range p =
    let inner = rsa_private-bytes key bytes in
    public-octets k.n k.e (first_two (behind_of (contents_of (rsa_private key)))) (rsa_public key) range (public-of k key p) refl
    (IsBytes-take _ _ (behind_of-bytes (contents_of (rsa_private key)) (contents_of-bytes (rsa_private key) inner)))

pub rsa_public-public : (k : PrivateNumbers) (key : List ℕ) → IsBytes key → IsInRange k.n k.e → IsPrivateKey k key → IsPublic (rsa_public key)
rsa_public-public k key bytes range p =
    let front : List ℕ = 0x30 ∷ 0x82 ∷ 0x01 ∷ 0x0a ∷ 0x02 ∷ 0x82 ∷ 0x01 ∷ 0x01 ∷ 0x00 ∷ [] in
    let back : List ℕ = 0x02 ∷ 0x03 ∷ 0x01 ∷ 0x00 ∷ 0x01 ∷ [] in
    record {
      size = ap length (rsa_public-is k key bytes range p)
          ∙ omega (arith, length-append front (i2osp k.n 256 ++ back), length-append (i2osp k.n 256) back, length-i2osp k.n 256);
      n = k.n;
      e = k.e;
      in_range = range;
      read = public-of k key p;
    }

pub public_key_info-bytes : (key : List ℕ) → IsBytes key → length key ≡ 270 → IsBytes (public_key_info key)
public_key_info-bytes key bytes size =
    subst IsBytes (sym (public-info-is key size)) (IsBytes-append public_front key (IsBytes-known public_front refl) bytes)

-- ---- how long an RSAPrivateKey is

-- at least the tag stands before the contents, and at most four octets do
element-least : (tag : ℕ) (contents : List ℕ) → length contents < length (element tag contents)
unfolding element
element-least tag contents = omega (arith, length-append (tag ∷ der_length (length contents)) contents)

length-most : (n : ℕ) → length (der_length n) ≤ 3
unfolding der_length
length-most n = grind (arith, nat_tests)

element-most : (tag : ℕ) (contents : List ℕ) → length (element tag contents) ≤ 4 + length contents
unfolding element
element-most tag contents = omega (arith, length-append (tag ∷ der_length (length contents)) contents, length-most (length contents))

abbrev AreBelow : List ℕ → Type 0
AreBelow [] = Unit {0}
AreBelow (x ∷ xs) = (x < 2 ^ 2048) × AreBelow xs

integer-most : (x : ℕ) (rest octets : List ℕ) → x < 2 ^ 2048 → IsInteger x rest octets → length octets ≤ 261 + length rest
integer-most x rest octets below i =
    let size = element-most 0x02 i.contents in
    let sum = ap length i.written ∙ length-append (element 0x02 i.contents) rest in
    elim (cases_lt 257 (length i.contents)) [
      | inl long ↦
          (let bound = least-long 256 i.contents long i.shortest in
          let whole : 256 ^ 256 ≡ 2 ^ 2048 = refl in
          absurd (omega (arith, bound, whole, i.value, below)))
      | inr short ↦ omega (arith, size, sum, short)
    ]

integers-most : (xs octets : List ℕ) → AreBelow xs → AreIntegers xs [] octets → length octets ≤ 261 * length xs
integers-most [] octets below i = omega (arith, ap length (integers-nil [] octets i))
integers-most (x ∷ xs) octets below i =
    let parts = integers-parts x xs [] octets i in
    omega (arith, integer-most x parts.0 octets below.0 parts.1.0, integers-most xs parts.0 below.1 parts.1.1)

less : (x a b : ℕ) → x < a → a ≤ b → x < b
less x a b below most = omega (arith, below, most)

are-below : (k : PrivateNumbers) → IsPrivateInRange k → AreBelow (integers_of k)
are-below k r =
    let version : 0 < 2 ^ 2048 = search rules in
    let half : 2 ^ 1024 ≤ 2 ^ 2048 = search rules in
    let room : 65538 ≤ 2 ^ 2048 = search rules in
    let exponent = r.public.exponent in
    let last : AreBelow (k.q ∷ k.dp ∷ k.dq ∷ k.qinv ∷ []) = (
      less k.q (2 ^ 1024) (2 ^ 2048) r.q_half.below half,
      (less k.dp (2 ^ 1024) (2 ^ 2048) r.dp_below half, (less k.dq (2 ^ 1024) (2 ^ 2048) r.dq_below half, (less k.qinv (2 ^ 1024) (2 ^ 2048) r.qinv_below half, tt))),
    ) in
    (version, (r.public.below, (less k.e 65538 (2 ^ 2048) (omega (arith, exponent)) room, (r.d_below, (less k.p (2 ^ 1024) (2 ^ 2048) r.p_half.below half, last)))))

inner-least : (k : PrivateNumbers) (inner : List ℕ) → IsBytes inner → IsInRange k.n k.e → IsSequence (integers_of k) inner → 256 ≤ length inner
inner-least k inner bytes range s =
    let zero = integers-parts 0 _ [] s.contents s.integers in
    let first = integers-parts k.n _ [] zero.0 zero.1.1 in
    let a : List ℕ = first.1.0.contents in
    let all : IsBytes (element 0x02 zero.1.0.contents ++ zero.0) = subst IsBytes zero.1.0.written (contents-bytes 0x30 s.contents (subst IsBytes s.written bytes)) in
    let rest : IsBytes (element 0x02 a ++ first.0) = subst IsBytes first.1.0.written (back-bytes (element 0x02 zero.1.0.contents) zero.0 all) in
    let size = modulus-size k.n a (contents-bytes 0x02 a (front-bytes (element 0x02 a) first.0 rest)) first.1.0.shortest first.1.0.value range.full range.below in
    let one = ap length s.written in
    let two = ap length zero.1.0.written ∙ length-append (element 0x02 zero.1.0.contents) zero.0 in
    let three = ap length first.1.0.written ∙ length-append (element 0x02 a) first.0 in
    omega (arith, size, one, two, three, element-least 0x30 s.contents, element-least 0x02 a)

inner-most : (k : PrivateNumbers) (inner : List ℕ) → IsPrivateInRange k → IsSequence (integers_of k) inner → length inner < 65000
inner-most k inner r s =
    let most = integers-most (integers_of k) s.contents (are-below k r) s.integers in
    omega (arith, ap length s.written, element-most 0x30 s.contents, most)

-- a private key is the PrivateKeyInfo of its RSAPrivateKey
pub info-is : (key : List ℕ) → IsPrivate key → key ≡ private_key_info (rsa_private key)
info-is key is = is.read.written ∙ ap private_key_info (sym (inner-found is.read.inner key is.read.written))

pub rsa_private-form : (key : List ℕ) → IsBytes key → IsPrivate key → IsRsaPrivateKey (rsa_private key)
rsa_private-form key bytes is =
    let k = is.numbers in
    let held : is.read.inner ≡ rsa_private key = sym (inner-found is.read.inner key is.read.written) in
    let s : IsSequence (integers_of k) (rsa_private key) = subst (IsSequence (integers_of k)) held is.read.integers in
    record {
      long = inner-least k (rsa_private key) (rsa_private-bytes key bytes) is.in_range.public s;
      short = inner-most k (rsa_private key) is.in_range s;
      key = subst IsPrivate (info-is key is) is;
    }

-- ---- the PrivateKeyInfo of an RSAPrivateKey is bytes

two-bytes : (tag n : ℕ) → tag < 256 → 256 ≤ n → n < 65536 → IsBytes (tag ∷ der_length n)
two-bytes tag n low long short =
    let upper : n / 256 < 256 = omega arith in
    let lower : n % 256 < 256 = omega arith in
    subst IsBytes (ap (λ d. tag ∷ d) (sym (der-two n long)))
    (IsBytes_cons tag (0x82 ∷ n / 256 ∷ n % 256 ∷ []) low
    (IsBytes_cons 0x82 (n / 256 ∷ n % 256 ∷ []) (omega arith)
    (IsBytes_cons (n / 256) (n % 256 ∷ []) upper (IsBytes_cons (n % 256) [] lower IsBytes-nil))))

key_front-bytes : IsBytes key_front
key_front-bytes = subst IsBytes (sym front-octets) (IsBytes-known (0x02 ∷ 0x01 ∷ 0x00 ∷ 0x30 ∷ 0x0d ∷ 0x06 ∷ 0x09 ∷ 0x2a ∷ 0x86 ∷ 0x48 ∷ 0x86 ∷ 0xf7 ∷ 0x0d ∷ 0x01 ∷ 0x01 ∷ 0x01 ∷ 0x05 ∷ 0x00 ∷ []) refl)

pub private_key_info-bytes : (inner : List ℕ) → IsRsaPrivateKey inner → IsBytes inner → IsBytes (private_key_info inner)
private_key_info-bytes inner is bytes =
    let long = is.long in
    let short = is.short in
    let n : ℕ = length inner in
    let head : List ℕ = 0x30 ∷ der_length (n + 22) in
    let string : List ℕ = 0x04 ∷ der_length n in
    let before = IsBytes-append head key_front (two-bytes 0x30 (n + 22) (omega arith) (omega (arith, long)) (omega (arith, short))) key_front-bytes in
    let all = IsBytes-append (head ++ key_front) string before (two-bytes 0x04 n (omega arith) long (omega (arith, short))) in
    subst IsBytes (private-info-is inner key_front n (n + 22) refl long refl refl) (IsBytes-append ((head ++ key_front) ++ string) inner all bytes)
