-- The octets of a private key of RSA are bytes.
use Rattle.std.proofs.Common.{◌≡◌, ℕ, ◌/◌, ◌%◌, ◌<◌, ◌≤◌, ◌⊎◌, inl, inr, List, Option, [], ◌∷◌, ◌++◌, length, length-append, refl, sym, ap, subst, arith}
use Rattle.std.proofs.lemmas.Bool.Decides.{nat_tests}
use Rattle.std.proofs.lemmas.List.{drop_at, take_at}
use Rattle.base64.specs.GeneralPurpose.{IsBytes}
use Rattle.paseto_der.specs.Element.{der_length, element}
use Rattle.paseto_der.proofs.ElementLaws.{der-one, der-short, der-two}
use Rattle.paseto_rsa.specs.Keys.{IsPrivate}
use Rattle.rusty_paseto_core.proofs.EncodingBytes.{IsBytes-known}
use Rattle.rusty_paseto_primitives.proofs.ByteLists.{IsBytes_cons, IsBytes-append, IsBytes-drop, IsBytes-nil, IsBytes-take}
use Rattle.paseto_pem.specs.declared.label.Label.{Label}
use Rattle.paseto_pem.specs.declared.label.Label.TheVariants.{PrivateKey, RsaPrivateKey}
use Rattle.paseto_pem.specs.Algorithm.{rsa}
use Rattle.paseto_pem.specs.Info.{private_key_info, version_of}
use Rattle.paseto_pem.specs.Rsa.{IsForm, IsPrivateOf}
use Rattle.paseto_pem.proofs.AlgorithmLaws.{rsa-octets}
use Rattle.paseto_pem.proofs.InfoLaws.{element-most, private-is}
use Rattle.paseto_pem.proofs.RsaLaws.{inner-few}

front-bytes : (xs ys : List ℕ) → IsBytes (xs ++ ys) → IsBytes xs
front-bytes xs ys h = subst IsBytes (take_at xs ys (length xs) refl) (IsBytes-take (length xs) (xs ++ ys) h)

back-bytes : (xs ys : List ℕ) → IsBytes (xs ++ ys) → IsBytes ys
back-bytes xs ys h = subst IsBytes (drop_at xs ys (length xs) refl) (IsBytes-drop (length xs) (xs ++ ys) h)

contents-bytes : (tag : ℕ) (contents : List ℕ) → IsBytes (element tag contents) → IsBytes contents
unfolding element
contents-bytes tag contents h = back-bytes (tag ∷ der_length (length contents)) contents h

cases : (n : ℕ) → (n < 128) ⊎ (((128 ≤ n) × (n < 256)) ⊎ (256 ≤ n))
cases n = grind (arith, nat_tests)

length-bytes : (n : ℕ) → n < 65536 → IsBytes (der_length n)
length-bytes n most = elim (cases n) [
  | inl low ↦ subst IsBytes (sym (der-short n low)) (IsBytes_cons n [] (omega arith) IsBytes-nil)
  | inr high ↦ elim high [
    | inl middle ↦
        subst IsBytes (sym (der-one n middle.0 middle.1)) (IsBytes_cons 0x81 (n ∷ []) (omega arith) (IsBytes_cons n [] middle.1 IsBytes-nil))
    | inr large ↦
        let upper : n / 256 < 256 = omega arith in
        let lower : n % 256 < 256 = omega arith in
        subst IsBytes (sym (der-two n large))
        (IsBytes_cons 0x82 (n / 256 ∷ n % 256 ∷ []) (omega arith)
        (IsBytes_cons (n / 256) (n % 256 ∷ []) upper (IsBytes_cons (n % 256) [] lower IsBytes-nil)))
  ]
]

element-bytes : (tag : ℕ) (contents : List ℕ) → tag < 256 → length contents < 65536 → IsBytes contents → IsBytes (element tag contents)
unfolding element
element-bytes tag contents low most h =
    IsBytes-append (tag ∷ der_length (length contents)) contents (IsBytes_cons tag (der_length (length contents)) low (length-bytes (length contents) most)) h

inner-bytes : (label : Label) (contents inner : List ℕ) (public : Option (List ℕ)) → IsBytes contents → IsForm label contents inner public → IsBytes inner
inner-bytes PrivateKey contents inner public h form =
    let whole = contents-bytes 0x30 _ (subst IsBytes form.written h) in
    let rest = back-bytes (element 0x30 rsa) _ (back-bytes (element 0x02 (version_of public ∷ [])) _ whole) in
    contents-bytes 0x04 inner (front-bytes (element 0x04 inner) _ rest)
inner-bytes RsaPrivateKey contents inner public h form = subst IsBytes form.0 h
inner-bytes label contents inner public h form = absurd form

info-bytes : (inner : List ℕ) → length inner ≤ 2400 → IsBytes inner → IsBytes (private_key_info rsa inner)
info-bytes inner few h =
    let known : IsBytes rsa = subst IsBytes rsa-octets (IsBytes-known (0x06 ∷ 0x09 ∷ 0x2a ∷ 0x86 ∷ 0x48 ∷ 0x86 ∷ 0xf7 ∷ 0x0d ∷ 0x01 ∷ 0x01 ∷ 0x01 ∷ 0x05 ∷ 0x00 ∷ []) refl) in
    let size : length rsa ≡ 13 = ap length (sym rsa-octets) in
    let one = element-most 0x02 (0 ∷ []) in
    let two = element-most 0x30 rsa in
    let three = element-most 0x04 inner in
    let back : List ℕ = element 0x30 rsa ++ element 0x04 inner in
    let most : length (element 0x02 (0 ∷ []) ++ back) < 65536 =
    omega (arith, one, two, three, size, few, length-append (element 0x02 (0 ∷ [])) back, length-append (element 0x30 rsa) (element 0x04 inner)) in
    let zero_bytes : IsBytes (0 ∷ []) = IsBytes_cons 0 [] (omega arith) IsBytes-nil in
    subst IsBytes (sym (private-is rsa inner))
    (element-bytes 0x30 (element 0x02 (0 ∷ []) ++ back) (omega arith) most
    (IsBytes-append (element 0x02 (0 ∷ [])) back
    (element-bytes 0x02 (0 ∷ []) (omega arith) (omega arith) zero_bytes)
    (IsBytes-append (element 0x30 rsa) (element 0x04 inner)
    (element-bytes 0x30 rsa (omega arith) (omega (arith, size)) known)
    (element-bytes 0x04 inner (omega arith) (omega (arith, few)) h))))

pub key-bytes : (label : Label) (contents key : List ℕ) → IsBytes contents → IsPrivateOf label contents key → IsBytes key
key-bytes label contents key h p =
    let few = inner-few p.inner (subst IsPrivate p.written p.is_key) in
    subst IsBytes (sym p.written) (info-bytes p.inner few (inner-bytes label contents p.inner p.public h p.form))
