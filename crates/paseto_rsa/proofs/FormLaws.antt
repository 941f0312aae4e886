-- Keys in their forms.
use Rattle.std.proofs.Common.{◌≡◌, ℕ, ◌+◌, ◌≤◌, List, [], ◌∷◌, ◌++◌, length, get_or, refl, sym, ◌∙◌, ap, subst, append_assoc, length-append, arith}
use Rattle.std.proofs.lemmas.List.{append_cancel_left}
use Rattle.paseto_der.specs.Element.{der_length, element}
use Rattle.paseto_der.proofs.ElementLaws.{der-two, element-unique, element-whole}
use Rattle.paseto_rsa.specs.Forms.{IsPublic, IsRsaPrivateKey, algorithm, private_key_info, public_key_info}
use Rattle.paseto_rsa.specs.Keys.{IsPrivate, key_front}
use Rattle.paseto_rsa.specs.Integers.{IsSequence}
use Rattle.paseto_rsa.proofs.IntegerLaws.{integers-parts}
use Rattle.paseto_rsa.proofs.KeyLaws.{front-parts, front-size, inner-unique, integers_of}

-- an element of contents whose length is known
pub element-sized : (tag n : ℕ) (contents : List ℕ) → length contents ≡ n → element tag contents ≡ (tag ∷ der_length n) ++ contents
unfolding element
element-sized tag n contents e = ap (λ k. (tag ∷ der_length k) ++ contents) e

-- what is written of a PrivateKeyInfo, piece by piece
pub private-info-is : (inner front : List ℕ) (n m : ℕ) → length inner ≡ n → 256 ≤ n → m ≡ n + 22 → front ≡ key_front
    → ((([] ++ (0x30 ∷ der_length m)) ++ front) ++ (0x04 ∷ der_length n)) ++ inner ≡ private_key_info inner
private-info-is inner front n m size long sum e =
    let string = element-sized 0x04 n inner size in
    let three : length (der_length n) ≡ 3 = ap length (der-two n long) in
    let held : length (element 0x04 inner) ≡ n + 4 =
    ap length string ∙ omega (arith, length-append (0x04 ∷ der_length n) inner, three, size) in
    let all : length (key_front ++ element 0x04 inner) ≡ m =
    omega (arith, length-append key_front (element 0x04 inner), front-size, held, sum) in
    let head : List ℕ = 0x30 ∷ der_length m in
    append_assoc (head ++ front) (0x04 ∷ der_length n) inner ∙ append_assoc head front ((0x04 ∷ der_length n) ++ inner)
    ∙ ap (λ l. head ++ (front ++ l)) (sym string) ∙ ap (λ l. head ++ (l ++ element 0x04 inner)) e
    ∙ sym (element-sized 0x30 m (key_front ++ element 0x04 inner) all)

-- what stands before a public key in a SubjectPublicKeyInfo
abbrev pub public_front : List ℕ
public_front =
    0x30 ∷ 0x82 ∷ 0x01 ∷ 0x22 ∷ 0x30 ∷ 0x0d ∷ 0x06 ∷ 0x09 ∷ 0x2a ∷ 0x86 ∷ 0x48 ∷ 0x86 ∷ 0xf7 ∷ 0x0d ∷ 0x01 ∷
    0x01 ∷ 0x01 ∷ 0x05 ∷ 0x00 ∷ 0x03 ∷ 0x82 ∷ 0x01 ∷ 0x0f ∷ 0x00 ∷ []

abbrev algorithm_octets : List ℕ
algorithm_octets =
    0x30 ∷ 0x0d ∷ 0x06 ∷ 0x09 ∷ 0x2a ∷ 0x86 ∷ 0x48 ∷ 0x86 ∷ 0xf7 ∷ 0x0d ∷ 0x01 ∷ 0x01 ∷ 0x01 ∷ 0x05 ∷ 0x00 ∷ []

algorithm-is : element 0x30 algorithm ≡ algorithm_octets
unfolding algorithm element der_length
algorithm-is = refl

pub public-info-is : (key : List ℕ) → length key ≡ 270 → public_key_info key ≡ public_front ++ key
unfolding public_key_info der_length
public-info-is key size =
    let bits = element-sized 0x03 271 (0 ∷ key) (omega (arith, size)) in
    let held : length (element 0x03 (0 ∷ key)) ≡ 275 = ap length bits ∙ omega (arith, size) in
    let contents : List ℕ = element 0x30 algorithm ++ element 0x03 (0 ∷ key) in
    let all : length contents ≡ 290 =
    length-append (element 0x30 algorithm) (element 0x03 (0 ∷ key)) ∙ omega (arith, ap length algorithm-is, held) in
    element-sized 0x30 290 contents all ∙ ap (λ l. (0x30 ∷ der_length 290) ++ (l ++ element 0x03 (0 ∷ key))) algorithm-is
    ∙ ap (λ l. (0x30 ∷ der_length 290) ++ (algorithm_octets ++ l)) bits

-- an INTEGER is no SEQUENCE
other-tag : (a b r s : List ℕ) → element 0x02 a ++ r ≡ element 0x30 b ++ s → ⊥
unfolding element
other-tag a b r s e =
    let tags : 0x02 ≡ 0x30 = ap (λ l. get_or l 0 0) e in
    omega (arith, tags)

-- octets are not both a private key and the RSAPrivateKey of one: behind the version stands a SEQUENCE, or an INTEGER
pub one-form : (octets : List ℕ) → IsPrivate octets → IsRsaPrivateKey octets → ⊥
one-form octets info alone =
    let k = alone.key.numbers in
    let read = alone.key.read in
    let string : List ℕ = element 0x04 info.read.inner in
    let held : read.inner ≡ octets = inner-unique read.inner octets (private_key_info octets) read.written refl in
    let sequence : IsSequence (integers_of k) octets = subst (IsSequence (integers_of k)) held read.integers in
    let zero = integers-parts 0 _ [] sequence.contents sequence.integers in
    let first = integers-parts k.n _ [] zero.0 zero.1.1 in
    let contents = element-unique 0x30 sequence.contents (key_front ++ string) [] []
    (sym (element-whole 0x30 _ octets sequence.written) ∙ element-whole 0x30 _ octets info.read.written) in
    let behind = element-unique 0x02 zero.1.0.contents (0 ∷ []) zero.0 (element 0x30 algorithm ++ string)
    (sym zero.1.0.written ∙ contents.0 ∙ front-parts string) in
    other-tag first.1.0.contents algorithm first.0 string (sym first.1.0.written ∙ behind.1)

-- a SubjectPublicKeyInfo is that of one key
pub public-unique : (a b : List ℕ) → IsPublic a → IsPublic b → public_key_info a ≡ public_key_info b → a ≡ b
public-unique a b first second e =
    append_cancel_left public_front a b (sym (public-info-is a first.size) ∙ e ∙ public-info-is b second.size)
