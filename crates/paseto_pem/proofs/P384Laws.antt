-- Keys of P-384.
use Rattle.std.proofs.Common.{◌≡◌, ◌≢◌, ◌⊎◌, ℕ, ◌+◌, ◌<◌, ◌≤◌, inl, inr, List, [], ◌∷◌, ◌++◌, length, get_or, slice_index, ◌%◌, subst, take, drop, refl, sym, ap, ◌∙◌, append_assoc, length-append, arith}
use Rattle.std.specs.Prelude.{IsTrue, Option, None, ◌==◌, ◌&&◌, ◌||◌}
use Rattle.std.proofs.lemmas.Bool.Decides.{nat_tests}
use Rattle.std.proofs.lemmas.List.{append-nil, append_cancel_left}
use Rattle.paseto_der.specs.Element.{der_length, element}
use Rattle.paseto_der.proofs.ElementLaws.{element-first, element-unique}
use Rattle.paseto_p384.specs.P384.{IsPrivate}
use Rattle.rusty_paseto_parts.specs.PublicKey.{is_compressed}
use Rattle.paseto_pem.specs.declared.label.Label.{Label}
use Rattle.paseto_pem.specs.declared.label.Label.TheVariants.{PrivateKey, EcPrivateKey}
use Rattle.paseto_pem.specs.declared.found.Algorithm.{Algorithm}
use Rattle.paseto_pem.specs.declared.found.Algorithm.TheVariants.{Ed25519, EllipticCurve, Rsa, Unknown}
use Rattle.paseto_pem.specs.declared.error.PemError.{PemError}
use Rattle.paseto_pem.specs.declared.error.PemError.TheVariants.{InvalidDer, OtherAlgorithm, OtherCurve, InvalidKey}
use Rattle.paseto_pem.specs.Algorithm.{IsAlgorithm, ec_public_key, secp384r1}
use Rattle.paseto_pem.specs.Info.{IsPrivateInfo, private_key_info, public_key_info}
use Rattle.paseto_pem.specs.P384.{AreHalves, IsAlgorithmFault, IsAloneFault, IsBehindCurve, IsCurveFault, IsForm, IsFormFault, IsInfoFault, IsNumber, IsPoint, IsPointOf, IsPrivateOf, IsPublicOf, IsPublicRefusal, IsSpelled, compressed, ec_private_key, p384, parameters, public_part}
use Rattle.paseto_pem.proofs.AlgorithmLaws.{ed25519-octets, rsa-octets}
use Rattle.paseto_pem.proofs.InfoLaws.{element-most, element-same, private-info, private-unique, public-unique}

pub algorithm-octets : 0x06 ∷ 0x07 ∷ 0x2a ∷ 0x86 ∷ 0x48 ∷ 0xce ∷ 0x3d ∷ 0x02 ∷ 0x01 ∷ 0x06 ∷ 0x05 ∷ 0x2b ∷ 0x81 ∷ 0x04 ∷ 0x00 ∷ 0x22 ∷ [] ≡ p384
unfolding ec_public_key secp384r1 element der_length
algorithm-octets = refl

pub version-octets : 0x02 ∷ 0x01 ∷ 0x01 ∷ [] ≡ element 0x02 (1 ∷ [])
unfolding element der_length
version-octets = refl

pub ec-is : (number rest : List ℕ) → ec_private_key number rest ≡ element 0x30 (element 0x02 (1 ∷ []) ++ (element 0x04 number ++ rest))
unfolding ec_private_key
ec-is number rest = refl

pub part-is : (xy : List ℕ) → public_part xy ≡ element 0xa1 (element 0x03 (0 ∷ 4 ∷ xy))
unfolding public_part
part-is xy = refl

-- an ECPrivateKey can be read in one way
pub ec-unique : (a b r s octets : List ℕ) → octets ≡ ec_private_key a r → octets ≡ ec_private_key b s → (a ≡ b) × (r ≡ s)
ec-unique a b r s octets e f =
    let whole = element-same 0x30 _ _ (sym (ec-is a r) ∙ sym e ∙ f ∙ ec-is b s) in
    let rest = append_cancel_left (element 0x02 (1 ∷ [])) _ _ whole in
    element-unique 0x04 a b r s rest

-- what an ECPrivateKey has for contents, behind its version
pub ec-contents : (number rest contents octets version : List ℕ) → octets ≡ ec_private_key number rest
    → octets ≡ element 0x30 contents → version ≡ element 0x02 (1 ∷ []) → contents ≡ version ++ (element 0x04 number ++ rest)
ec-contents number rest contents octets version e read is =
    element-same 0x30 contents _ (sym read ∙ e ∙ ec-is number rest)
    ∙ ap (λ v. v ++ (element 0x04 number ++ rest)) (sym is)

pub ec-behind : (number rest contents octets version behind : List ℕ) → octets ≡ ec_private_key number rest
    → octets ≡ element 0x30 contents → version ≡ element 0x02 (1 ∷ []) → contents ≡ version ++ behind
    → behind ≡ element 0x04 number ++ rest
ec-behind number rest contents octets version behind e read is split =
    append_cancel_left version behind _ (sym split ∙ ec-contents number rest contents octets version e read is)

pub ec-of : (number rest contents octets version behind : List ℕ) → octets ≡ element 0x30 contents
    → version ≡ element 0x02 (1 ∷ []) → contents ≡ version ++ behind → behind ≡ element 0x04 number ++ rest
    → octets ≡ ec_private_key number rest
ec-of number rest contents octets version behind read is split parts =
    read ∙ ap (element 0x30) (split ∙ ap (λ v. v ++ behind) is ∙ ap (λ b. element 0x02 (1 ∷ []) ++ b) parts) ∙ sym (ec-is number rest)

-- what stands behind the parameters is one
pub behind-unique : (behind a b : List ℕ) → IsBehindCurve behind a → IsBehindCurve behind b → a ≡ b
behind-unique behind a b (inl e) (inl f) = append_cancel_left (parameters secp384r1) a b (sym e ∙ f)
behind-unique behind a b (inl e) (inr f) = absurd (f.1 secp384r1 a e)
behind-unique behind a b (inr e) (inl f) = absurd (e.1 secp384r1 b f)
behind-unique behind a b (inr e) (inr f) = sym e.0 ∙ f.0

-- an ECPrivateKey that tells its curve can be read in one way
pub alone-unique : (a b c d r s octets : List ℕ) → octets ≡ ec_private_key a (parameters c ++ r)
    → octets ≡ ec_private_key b (parameters d ++ s) → (a ≡ b) × (c ≡ d) × (r ≡ s)
alone-unique a b c d r s octets e f =
    let parts = ec-unique a b (parameters c ++ r) (parameters d ++ s) octets e f in
    let named = element-unique 0xa0 c d r s parts.1 in
    (parts.0, named.0, named.1)

-- contents are one ECPrivateKey of the curve
pub form-unique : (label : Label) (contents a b r s : List ℕ) (x y : Option (List ℕ)) → IsForm label contents a r x → IsForm label contents b s y
    → (a ≡ b) × (r ≡ s) × (x ≡ y)
form-unique PrivateKey contents a b r s x y e f =
    let info = private-unique p384 p384 (ec_private_key a e.0) (ec_private_key b f.0) contents x y e.2 f.2 in
    let parts = ec-unique a b e.0 f.0 (ec_private_key a e.0) refl info.1 in
    let again : IsBehindCurve e.0 s = subst (λ (l : List ℕ). IsBehindCurve l s) (sym parts.1) f.1 in
    (parts.0, behind-unique e.0 r s e.1 again, info.2)
form-unique EcPrivateKey contents a b r s x y e f =
    let parts = alone-unique a b secp384r1 secp384r1 r s contents e.0 f.0 in
    (parts.0, parts.2, e.1 ∙ sym f.1)
form-unique label contents a b r s x y e f = absurd e

-- another algorithm or curve is not this one
other-curves : (other : Algorithm) → IsAlgorithm other p384 → other ≢ EllipticCurve → ⊥
other-curves Ed25519 is other =
    let second : 7 ≡ 3 = ap (λ (l : List ℕ). get_or l 1 0) (algorithm-octets ∙ is ∙ sym ed25519-octets) in
    cc second
other-curves EllipticCurve is other = other refl
other-curves Rsa is other =
    let second : 7 ≡ 9 = ap (λ (l : List ℕ). get_or l 1 0) (algorithm-octets ∙ is ∙ sym rsa-octets) in
    cc second
other-curves Unknown is other = is.1 (secp384r1, refl)

fault-algorithm : (algorithm : List ℕ) (error : PemError) → IsAlgorithmFault algorithm error → algorithm ≢ p384
fault-algorithm algorithm (OtherAlgorithm other) h e = other-curves other (subst (IsAlgorithm other) e h.0) h.1
fault-algorithm algorithm (OtherCurve other) h e = h.2 (append_cancel_left ec_public_key h.0 secp384r1 (sym h.1 ∙ e))
fault-algorithm algorithm error h e = absurd h

info-fault : (contents algorithm key number behind : List ℕ) (public own : Option (List ℕ)) (error : PemError)
    → IsPrivateInfo algorithm key public contents → IsAlgorithmFault algorithm error
    → IsPrivateInfo p384 (ec_private_key number behind) own contents → ⊥
info-fault contents algorithm key number behind public own error p h q =
    fault-algorithm algorithm error h (private-unique algorithm p384 key (ec_private_key number behind) contents public own p q).0

-- the parameters are those of another curve
curve-fault : (behind rest : List ℕ) (error : PemError) → IsCurveFault behind error → IsBehindCurve behind rest → ⊥
curve-fault behind rest (OtherCurve other) h (inl e) = h.3 (element-unique 0xa0 h.0 secp384r1 h.1 rest (sym h.2 ∙ e)).0
curve-fault behind rest (OtherCurve other) h (inr f) = f.1 h.0 h.1 h.2
curve-fault behind rest error h b = absurd h

module _ (contents number behind rest : List ℕ) (own : Option (List ℕ)) (error : PemError) where
  inner-fault : (other found : List ℕ) (public : Option (List ℕ)) → IsPrivateInfo p384 (ec_private_key other found) public contents
      → IsCurveFault found error → IsBehindCurve behind rest → IsPrivateInfo p384 (ec_private_key number behind) own contents → ⊥
  inner-fault other found public p h b q =
      let key = (private-unique p384 p384 (ec_private_key other found) (ec_private_key number behind) contents public own p q).1 in
      let same = (ec-unique other number found behind (ec_private_key other found) refl key).1 in
      curve-fault behind rest error (subst (λ (l : List ℕ). IsCurveFault l error) same h) b

  either-fault : ((algorithm key : List ℕ) × (public : Option (List ℕ)) × IsPrivateInfo algorithm key public contents × IsAlgorithmFault algorithm error)
      ⊎ ((number behind : List ℕ) × (public : Option (List ℕ)) × IsPrivateInfo p384 (ec_private_key number behind) public contents
      × IsCurveFault behind error)
      → IsBehindCurve behind rest → IsPrivateInfo p384 (ec_private_key number behind) own contents → ⊥
  either-fault (inl h) b q = info-fault contents h.0 h.1 number behind h.2 own error h.3 h.4 q
  either-fault (inr h) b q = inner-fault h.0 h.1 h.2 h.3 h.4 b q

no-info : (contents number behind rest : List ℕ) (own : Option (List ℕ)) (error : PemError) → IsInfoFault contents error
    → IsBehindCurve behind rest → IsPrivateInfo p384 (ec_private_key number behind) own contents → ⊥
no-info contents number behind rest own InvalidDer h b q = h p384 (ec_private_key number behind) own q
no-info contents number behind rest own InvalidKey h b q =
    h.3 number behind (private-unique p384 p384 h.0 (ec_private_key number behind) contents h.1 own h.2 q).1
no-info contents number behind rest own error h b q = either-fault contents number behind rest own error h b q

no-alone : (contents number rest : List ℕ) (error : PemError) → IsAloneFault contents error
    → contents ≡ ec_private_key number (parameters secp384r1 ++ rest) → ⊥
no-alone contents number rest InvalidDer h e = h number secp384r1 rest e
no-alone contents number rest (OtherCurve other) h e =
    h.4 (alone-unique h.0 number h.1 secp384r1 h.2 rest contents h.3 e).1
no-alone contents number rest error h e = absurd h

pub no-form : (label : Label) (contents number rest : List ℕ) (public : Option (List ℕ)) (error : PemError) → IsFormFault label contents error
    → IsForm label contents number rest public → ⊥
no-form PrivateKey contents number rest public error h p = no-info contents number p.0 rest public error h p.1 p.2
no-form EcPrivateKey contents number rest public error h p = no-alone contents number rest error h p.0
no-form label contents number rest public error h p = p

public-fault : (contents algorithm key octets : List ℕ) (error : PemError) → contents ≡ public_key_info algorithm key
    → IsAlgorithmFault algorithm error → contents ≡ public_key_info p384 octets → ⊥
public-fault contents algorithm key octets error p h q =
    fault-algorithm algorithm error h (public-unique algorithm p384 key octets contents p q).0

pub no-public : (label : Label) (contents key : List ℕ) (error : PemError) → IsPublicRefusal contents error → IsPublicOf label contents key → ⊥
no-public label contents key InvalidDer h p = h p384 p.octets p.written
no-public label contents key InvalidKey h p =
    let same = (public-unique p384 p384 h.0 p.octets contents h.1 p.written).1 in
    h.2 key p.xy p.point (subst (λ (o : List ℕ). IsSpelled o key p.xy) (sym same) p.spelled)
no-public label contents key (OtherAlgorithm other) h p = public-fault contents h.0 h.1 p.octets (OtherAlgorithm other) h.2 h.3 p.written
no-public label contents key (OtherCurve other) h p = public-fault contents h.0 h.1 p.octets (OtherCurve other) h.2 h.3 p.written
no-public label contents key error h p = absurd h.3

-- a private key has one point
pub one-point : (a b xy zs : List ℕ) → a ≡ b → IsPointOf a xy → IsPointOf b zs → xy ≡ zs
one-point a b xy zs same p q =
    let r = subst (λ (k : List ℕ). IsPointOf k zs) (sym same) q in
    let both = sym p.1 ∙ r.1 in
    cc both

pub point-size : (key xy : List ℕ) → IsPointOf key xy → length key ≡ 48
unfolding IsPrivate
point-size key xy p = p.0.0

-- a number is that of one private key
pub number-one : (number a b : List ℕ) → length a ≡ 48 → length b ≡ 48 → IsNumber number a → IsNumber number b → a ≡ b
number-one number a b n m (inl e) (inl f) = sym e ∙ f
number-one number a b n m (inl e) (inr f) = let long = ap length (sym e ∙ f) in absurd (omega (arith, long, n, m))
number-one number a b n m (inr e) (inl f) = let long = ap length (sym e ∙ f) in absurd (omega (arith, long, n, m))
number-one number a b n m (inr e) (inr f) = ap (drop 1) (sym e ∙ f)

-- what is found beside a number
pub number-fault : (label : Label) (contents number made rest key xy : List ℕ) (public : Option (List ℕ)) → IsForm label contents number rest public
    → IsNumber number made → IsPointOf made xy → ¬ AreHalves rest public xy → IsPrivateOf label contents key → ⊥
number-fault label contents number made rest key xy public form told point other p =
    let same = form-unique label contents number p.number rest p.rest public p.public form p.form in
    let also : IsNumber number key = subst (λ (o : List ℕ). IsNumber o key) (sym same.0) p.told in
    let one = number-one number made key (point-size made xy point) (point-size key p.xy p.point) told also in
    let coordinates = one-point made key xy p.xy one point p.point in
    let halves : AreHalves rest public p.xy =
    subst (λ (o : Option (List ℕ)). AreHalves rest o p.xy) (sym same.2) (subst (λ (r : List ℕ). AreHalves r p.public p.xy) (sym same.1) p.halves) in
    other (subst (AreHalves rest public) (sym coordinates) halves)

pub no-number : (label : Label) (contents number rest key : List ℕ) (public : Option (List ℕ)) → IsForm label contents number rest public
    → ((made xy : List ℕ) → IsNumber number made → ¬ IsPointOf made xy) → IsPrivateOf label contents key → ⊥
no-number label contents number rest key public form none p =
    let same = form-unique label contents number p.number rest p.rest public p.public form p.form in
    none key p.xy (subst (λ (o : List ℕ). IsNumber o key) (sym same.0) p.told) p.point

-- what is written is an ECPrivateKey of the curve
part-no-parameters : (xy curve other : List ℕ) → public_part xy ≢ parameters curve ++ other
part-no-parameters xy curve other e =
    let first = (element-first 0xa1 (element 0x03 (0 ∷ 4 ∷ xy)) [] (public_part xy) (part-is xy ∙ sym (append-nil (element 0xa1 (element 0x03 (0 ∷ 4 ∷ xy)))))).1 in
    let second = (element-first 0xa0 curve other (public_part xy) e).1 in
    omega (arith, first, second)

pub written-form : (contents number xy : List ℕ) → contents ≡ private_key_info p384 (ec_private_key number (public_part xy))
    → IsForm PrivateKey contents number (public_part xy) None
written-form contents number xy e =
    (public_part xy, inr (refl, part-no-parameters xy), private-info p384 (ec_private_key number (public_part xy)) contents e)

pub compressed-is : (xy : List ℕ) → (2 + slice_index xy 95 % 2) ∷ take 48 xy ≡ compressed xy
unfolding compressed
compressed-is xy = refl

-- octets are one public key
pub public-one : (octets a b xy zs : List ℕ) → IsPoint a xy → IsPoint b zs → IsSpelled octets a xy → IsSpelled octets b zs → a ≡ b
public-one octets a b xy zs p q (inl e) (inl f) = sym e ∙ f
public-one octets a b xy zs p q (inl e) (inr f) =
    let long : length a ≡ length (4 ∷ zs) = ap length (sym e ∙ f) in
    absurd (omega (arith, long, p.size, q.width))
public-one octets a b xy zs p q (inr e) (inl f) =
    let long : length b ≡ length (4 ∷ xy) = ap length (sym f ∙ e) in
    absurd (omega (arith, long, q.size, p.width))
public-one octets a b xy zs p q (inr e) (inr f) =
    let same : xy ≡ zs = ap (drop 1) (sym e ∙ f) in
    p.encoded ∙ ap compressed same ∙ sym q.encoded

-- a public key in an ECPrivateKey has few octets
pub part-most : (xy : List ℕ) → length (public_part xy) ≤ 10 + length xy
part-most xy =
    omega (arith, ap length (part-is xy), element-most 0xa1 (element 0x03 (0 ∷ 4 ∷ xy)), element-most 0x03 (0 ∷ 4 ∷ xy))

-- the contents of an ECPrivateKey, written one after the other
pub ec-written : (number part contents : List ℕ) → contents ≡ (element 0x02 (1 ∷ []) ++ element 0x04 number) ++ part
    → element 0x30 contents ≡ ec_private_key number part
ec-written number part contents e =
    ap (element 0x30) (e ∙ append_assoc (element 0x02 (1 ∷ [])) (element 0x04 number) part) ∙ sym (ec-is number part)

pub ec-most : (number part contents : List ℕ) → contents ≡ (element 0x02 (1 ∷ []) ++ element 0x04 number) ++ part
    → length contents ≤ 7 + length number + length part
ec-most number part contents e =
    let version : length (element 0x02 (1 ∷ [])) ≡ 3 = ap length (sym version-octets) in
    omega (
      arith,
      ap length e,
      length-append (element 0x02 (1 ∷ []) ++ element 0x04 number) part,
      length-append (element 0x02 (1 ∷ [])) (element 0x04 number),
      version,
      element-most 0x04 number,
    )

is-48 : (n : ℕ) → n ≡ 48 → IsTrue (n == 48)
is-48 n e = grind (arith, nat_tests)

pub private-form : (label : Label) (contents key : List ℕ) → IsPrivateOf label contents key → IsTrue (length key == 48)
unfolding IsPrivate
private-form label contents key p = is-48 (length key) p.point.0.0

is-49 : (n first odd : ℕ) → n ≡ 49 → first ≡ 2 + odd → odd < 2 → IsTrue (n == 49 && (first == 2 || first == 3))
is-49 n first odd e f g = grind (arith, nat_tests)

pub public-form : (label : Label) (contents key : List ℕ) → IsPublicOf label contents key
    → IsTrue (length key == 49 && is_compressed key)
public-form label contents key p =
    let first = ap (λ l. slice_index l 0) (p.point.encoded ∙ sym (compressed-is p.xy)) in
    let odd : slice_index p.xy 95 % 2 < 2 = grind arith in
    is-49 (length key) (slice_index key 0) (slice_index p.xy 95 % 2) p.point.size first odd
