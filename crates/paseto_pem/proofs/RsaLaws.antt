-- Keys of RSA.
use Rattle.std.proofs.Common.{◌≡◌, ◌≢◌, ℕ, ◌+◌, ◌-◌, ◌*◌, ◌^◌, ◌<◌, ◌≤◌, List, [], ◌∷◌, ◌++◌, length, get_or, take, append_assoc, length-append, refl, sym, ap, subst, ◌∙◌, arith}
use Rattle.std.specs.Prelude.{MatchOption, Option, None, Some}
use Rattle.paseto_der.specs.Element.{behind_of, contents_of, element}
use Rattle.paseto_rsa.specs.Integers.{AreIntegers, IsInteger}
use Rattle.paseto_rsa.specs.Keys.{IsPrivate, first_two, key_front, rsa_private, rsa_public}
use Rattle.paseto_rsa.proofs.KeyLaws.{inner-found}
use Rattle.paseto_rsa.proofs.IntegerLaws.{integers-nil, integers-parts, least-long}
use Rattle.std.proofs.Common.{inl, inr, rules}
use Rattle.std.proofs.lemmas.Bool.{cases_lt}
use Rattle.paseto_pem.specs.declared.label.Label.{Label}
use Rattle.paseto_pem.specs.declared.label.Label.TheVariants.{PrivateKey, PublicKey, RsaPrivateKey, RsaPublicKey}
use Rattle.paseto_pem.specs.declared.found.Algorithm.{Algorithm}
use Rattle.paseto_pem.specs.declared.found.Algorithm.TheVariants.{Ed25519, EllipticCurve, Rsa, Unknown}
use Rattle.paseto_pem.specs.declared.error.PemError.{PemError}
use Rattle.paseto_pem.specs.declared.error.PemError.TheVariants.{InvalidDer, OtherAlgorithm, OtherHalf}
use Rattle.paseto_pem.specs.Algorithm.{IsAlgorithm, rsa}
use Rattle.paseto_pem.specs.Info.{IsHalf, private_key_info}
use Rattle.paseto_der.proofs.ElementLaws.{behind-is, contents-is, element-unique, element-whole}
use Rattle.paseto_pem.specs.Rsa.{HasOtherModulus, HasOtherSize, HasOtherPublicSize, IsForm, IsFormFault, IsHeld, IsHeldFault, IsInnerFault, IsPairFault, IsPrivateOf, modulus_size}
use Rattle.paseto_pem.proofs.AlgorithmLaws.{ec-octets, ed25519-octets, rsa-octets}
use Rattle.paseto_pem.proofs.InfoLaws.{element-most, element-same, private-info, private-is, private-unique, public-unique}

-- another algorithm is not this one
other-rsa : (other : Algorithm) → IsAlgorithm other rsa → other ≢ Rsa → ⊥
other-rsa Ed25519 is other =
    let second : 9 ≡ 3 = ap (λ (l : List ℕ). get_or l 1 0) (rsa-octets ∙ is ∙ sym ed25519-octets) in
    cc second
other-rsa EllipticCurve is other =
    let second : 9 ≡ 7 = ap (λ (l : List ℕ). get_or l 1 0) (rsa-octets ∙ is.1 ∙ ap (λ (l : List ℕ). l ++ is.0) (sym ec-octets)) in
    cc second
other-rsa Rsa is other = other refl
other-rsa Unknown is other = is.2 refl

-- contents have one RSAPrivateKey
pub form-unique : (label : Label) (contents a b : List ℕ) (x y : Option (List ℕ)) → IsForm label contents a x → IsForm label contents b y
    → (a ≡ b) × (x ≡ y)
form-unique PrivateKey contents a b x y e f =
    let same = private-unique rsa rsa a b contents x y e f in
    (same.1, same.2)
form-unique RsaPrivateKey contents a b x y e f = (sym e.0 ∙ f.0, e.1 ∙ sym f.1)
form-unique label contents a b x y e f = absurd e

pub no-form : (label : Label) (contents inner : List ℕ) (public : Option (List ℕ)) (error : PemError) → IsFormFault label contents error
    → IsForm label contents inner public → ⊥
no-form PrivateKey contents inner public InvalidDer h p = h rsa inner public p
no-form PrivateKey contents inner public (OtherAlgorithm other) h p =
    let same = (private-unique h.0 rsa h.1 inner contents h.2 public h.3 p).0 in
    other-rsa other (subst (IsAlgorithm other) same h.4) h.5
no-form PrivateKey contents inner public error h p = absurd h
no-form RsaPrivateKey contents inner public error h p = h
no-form label contents inner public error h p = p

-- an RSAPrivateKey that is refused
pub no-inner : (label : Label) (contents inner key : List ℕ) (public : Option (List ℕ)) → IsForm label contents inner public
    → ¬ IsPrivate (private_key_info rsa inner) → IsPrivateOf label contents key → ⊥
no-inner label contents inner key public form none p =
    let same = (form-unique label contents inner p.inner public p.public form p.form).0 in
    none (subst IsPrivate (p.written ∙ ap (private_key_info rsa) (sym same)) p.is_key)

pub pair-fault : (inner : List ℕ) (public : Option (List ℕ)) (error : PemError) → IsInnerFault inner error → IsPairFault inner public error
pair-fault inner public OtherHalf h = absurd h
pair-fault inner public error h = h

-- a public key that is refused
pub no-half : (label : Label) (contents inner key : List ℕ) (public : Option (List ℕ)) → IsForm label contents inner public
    → ¬ IsHalf public (rsa_public (private_key_info rsa inner)) → IsPrivateOf label contents key → ⊥
no-half label contents inner key public form other p =
    let same = form-unique label contents inner p.inner public p.public form p.form in
    let is_key : key ≡ private_key_info rsa inner = p.written ∙ ap (private_key_info rsa) (sym same.0) in
    let own : IsHalf p.public (rsa_public (private_key_info rsa inner)) = subst (λ (k : List ℕ). IsHalf p.public (rsa_public k)) is_key p.half in
    other (subst (λ (o : Option (List ℕ)). IsHalf o (rsa_public (private_key_info rsa inner))) (sym same.1) own)

-- ---- moduli

pub one-modulus : (size read : ℕ) (modulus behind integers : List ℕ) → integers ≡ element 0x02 modulus ++ behind → read ≡ modulus_size modulus
    → HasOtherModulus size integers → (size ≡ read) × (size ≢ 2048) × (length modulus < 65536)
one-modulus size read modulus behind integers e is h =
    let same = (element-unique 0x02 modulus h.0 behind h.1 (sym e ∙ h.2)).0 in
    (h.4 ∙ ap modulus_size (sym same) ∙ sym is, h.5, subst (λ (m : List ℕ). length m < 65536) (sym same) h.3)

-- the PrivateKeyInfo of an RSAPrivateKey, by what stands before it
pub front-is : (inner : List ℕ) → element 0x30 (key_front ++ element 0x04 inner) ≡ private_key_info rsa inner
unfolding key_front rsa
front-is inner =
    ap (element 0x30)
    (append_assoc (element 0x02 (0 ∷ []))
    (element 0x30 (element 0x06 (0x2a ∷ 0x86 ∷ 0x48 ∷ 0x86 ∷ 0xf7 ∷ 0x0d ∷ 0x01 ∷ 0x01 ∷ 0x01 ∷ []) ++ element 0x05 []))
    (element 0x04 inner))
    ∙ sym (private-is rsa inner)

-- ---- the public key of an RSAPrivateKey

rsa-public-is : (key : List ℕ) → rsa_public key ≡ element 0x30 (first_two (behind_of (contents_of (rsa_private key))))
unfolding rsa_public
rsa-public-is key = refl

-- it has the INTEGERs that are read behind the version
pub public-found : (inner integers version numbers modulus middle exponent behind : List ℕ) → inner ≡ element 0x30 integers
    → integers ≡ element 0x02 version ++ numbers → numbers ≡ element 0x02 modulus ++ middle → middle ≡ element 0x02 exponent ++ behind
    → element 0x30 (take (length numbers - length behind) numbers) ≡ rsa_public (private_key_info rsa inner)
public-found inner integers version numbers modulus middle exponent behind e first second third =
    let found : rsa_private (private_key_info rsa inner) ≡ inner = inner-found inner (private_key_info rsa inner) (sym (front-is inner)) in
    let sequence : contents_of inner ≡ integers = contents-is 0x30 integers [] inner (element-whole 0x30 integers inner e) in
    let rest : behind_of integers ≡ numbers = behind-is 0x02 version numbers integers first in
    let one : behind_of numbers ≡ middle = behind-is 0x02 modulus middle numbers second in
    let two : behind_of middle ≡ behind = behind-is 0x02 exponent behind middle third in
    let last : behind_of (behind_of numbers) ≡ behind = ap behind_of one ∙ two in
    let whole : behind_of (contents_of (rsa_private (private_key_info rsa inner))) ≡ numbers =
    ap (λ l. behind_of (contents_of l)) found ∙ ap behind_of sequence ∙ rest in
    sym
    (rsa-public-is (private_key_info rsa inner) ∙ ap (λ l. element 0x30 (first_two l)) whole
    ∙ ap (λ (l : List ℕ). element 0x30 (take (length numbers - length l) numbers)) last)

-- an RSAPrivateKey has them
record HasIntegers (inner : List ℕ) : Type 0 where
  version : List ℕ
  modulus : List ℕ
  exponent : List ℕ
  behind : List ℕ
  written : inner ≡ element 0x30 (element 0x02 version ++ (element 0x02 modulus ++ (element 0x02 exponent ++ behind)))

has-integers : (inner : List ℕ) → IsPrivate (private_key_info rsa inner) → HasIntegers inner
has-integers inner is =
    let k = is.numbers in
    let s = is.read.integers in
    let same = (private-unique rsa rsa inner is.read.inner (private_key_info rsa inner) None None
    (private-info rsa inner (private_key_info rsa inner) refl)
    (private-info rsa is.read.inner (private_key_info rsa inner) (is.read.written ∙ front-is is.read.inner))).1 in
    let zero = integers-parts 0 _ [] s.contents s.integers in
    let first = integers-parts k.n _ [] zero.0 zero.1.1 in
    let second = integers-parts k.e _ [] first.0 first.1.1 in
    let a : List ℕ = zero.1.0.contents in
    let b : List ℕ = first.1.0.contents in
    record {
      version = a;
      modulus = b;
      exponent = second.1.0.contents;
      behind = second.0;
      written = same ∙ s.written
          ∙ ap (element 0x30)
          (zero.1.0.written ∙ ap (λ l. element 0x02 a ++ l) (first.1.0.written ∙ ap (λ l. element 0x02 b ++ l) second.1.0.written));
    }

module _ (inner : List ℕ) where
  pub public-sequence : IsPrivate (private_key_info rsa inner) → (integers : List ℕ) × (inner ≡ element 0x30 integers)
  public-sequence is = let h = has-integers inner is in (_, h.written)

  module _ (integers : List ℕ) where
    pub public-first : IsPrivate (private_key_info rsa inner) → inner ≡ element 0x30 integers
        → (version behind : List ℕ) × (integers ≡ element 0x02 version ++ behind)
    public-first is e =
        let h = has-integers inner is in
        (h.version, _, element-same 0x30 integers _ (sym e ∙ h.written))

    module _ (version numbers : List ℕ) where
      pub public-second : IsPrivate (private_key_info rsa inner) → inner ≡ element 0x30 integers → integers ≡ element 0x02 version ++ numbers
          → (modulus behind : List ℕ) × (numbers ≡ element 0x02 modulus ++ behind)
      public-second is e first =
          let h = has-integers inner is in
          let all = element-same 0x30 integers _ (sym e ∙ h.written) in
          (h.modulus, _, (element-unique 0x02 version h.version numbers _ (sym first ∙ all)).1)

      pub public-third : (modulus middle : List ℕ) → IsPrivate (private_key_info rsa inner) → inner ≡ element 0x30 integers
          → integers ≡ element 0x02 version ++ numbers → numbers ≡ element 0x02 modulus ++ middle
          → (exponent behind : List ℕ) × (middle ≡ element 0x02 exponent ++ behind)
      public-third modulus middle is e first second =
          let h = has-integers inner is in
          let all = element-same 0x30 integers _ (sym e ∙ h.written) in
          let rest = (element-unique 0x02 version h.version numbers _ (sym first ∙ all)).1 in
          (h.exponent, h.behind, (element-unique 0x02 modulus h.modulus middle _ (sym second ∙ rest)).1)

-- a key is the PrivateKeyInfo of its RSAPrivateKey
pub inner-written : (contents key : List ℕ) → contents ≡ key → IsPrivate key → IsPrivateOf PrivateKey contents key
inner-written contents key e is =
    let inner : List ℕ = is.read.inner in
    let written : key ≡ private_key_info rsa inner = is.read.written ∙ front-is inner in
    record {
      inner = inner;
      public = None;
      form = private-info rsa inner contents (e ∙ written);
      written = written;
      is_key = is;
      half = tt;
    }

-- ---- an RSAPrivateKey is short

less : (x a b : ℕ) → x < a → a ≤ b → x < b
less x a b small most = omega (arith, small, most)

abbrev AllSmall : List ℕ → Type 0
AllSmall [] = Unit {0}
AllSmall (x ∷ xs) = (x < 2 ^ 2048) × AllSmall xs

integer-few : (x : ℕ) (rest octets : List ℕ) → x < 2 ^ 2048 → IsInteger x rest octets → length octets ≤ 261 + length rest
integer-few x rest octets small i =
    let size = element-most 0x02 i.contents in
    let sum = ap length i.written ∙ length-append (element 0x02 i.contents) rest in
    elim (cases_lt 257 (length i.contents)) [
      | inl long ↦
          let bound = least-long 256 i.contents long i.shortest in
          let whole : 256 ^ 256 ≡ 2 ^ 2048 = refl in
          absurd (omega (arith, bound, whole, i.value, small))
      | inr short ↦ omega (arith, size, sum, short)
    ]

integers-few : (xs octets : List ℕ) → AllSmall xs → AreIntegers xs [] octets → length octets ≤ 261 * length xs
integers-few [] octets small i = omega (arith, ap length (integers-nil [] octets i))
integers-few (x ∷ xs) octets small i =
    let parts = integers-parts x xs [] octets i in
    omega (arith, integer-few x parts.0 octets small.0 parts.1.0, integers-few xs parts.0 small.1 parts.1.1)

pub inner-few : (inner : List ℕ) → IsPrivate (private_key_info rsa inner) → length inner ≤ 2400
inner-few inner is =
    let same = (private-unique rsa rsa inner is.read.inner (private_key_info rsa inner) None None
    (private-info rsa inner (private_key_info rsa inner) refl)
    (private-info rsa is.read.inner (private_key_info rsa inner) (is.read.written ∙ front-is is.read.inner))).1 in
    let k = is.numbers in
    let r = is.in_range in
    let version : 0 < 2 ^ 2048 = search rules in
    let half : 2 ^ 1024 ≤ 2 ^ 2048 = search rules in
    let room : 65538 ≤ 2 ^ 2048 = search rules in
    let exponent : k.e < 2 ^ 2048 = less k.e 65538 (2 ^ 2048) (omega (arith, r.public.exponent)) room in
    let small : AllSmall (0 ∷ k.n ∷ k.e ∷ k.d ∷ k.p ∷ k.q ∷ k.dp ∷ k.dq ∷ k.qinv ∷ []) = (
      version,
      (
        r.public.below,
        (
          exponent,
          (
            r.d_below,
            (
              less k.p (2 ^ 1024) (2 ^ 2048) r.p_half.below half,
              (
                less k.q (2 ^ 1024) (2 ^ 2048) r.q_half.below half,
                (
                  less k.dp (2 ^ 1024) (2 ^ 2048) r.dp_below half,
                  (
                    less k.dq (2 ^ 1024) (2 ^ 2048) r.dq_below half,
                    (less k.qinv (2 ^ 1024) (2 ^ 2048) r.qinv_below half, tt),
                  ),
                ),
              ),
            ),
          ),
        ),
      ),
    ) in
    let s = is.read.integers in
    let few = integers-few (0 ∷ k.n ∷ k.e ∷ k.d ∷ k.p ∷ k.q ∷ k.dp ∷ k.dq ∷ k.qinv ∷ []) s.contents small s.integers in
    omega (arith, ap length (same ∙ s.written), element-most 0x30 s.contents, few)

-- contents hold one RSAPublicKey
pub held-one : (label : Label) (contents a b : List ℕ) → IsHeld label contents a → IsHeld label contents b → a ≡ b
held-one PublicKey contents a b h k = (public-unique rsa rsa a b contents h k).1
held-one RsaPublicKey contents a b h k = sym h ∙ k
held-one label contents a b h k = absurd h

pub held-fault : (label : Label) (contents key : List ℕ) (error : PemError) → IsHeldFault label contents error
    → IsHeld label contents key → ⊥
held-fault PublicKey contents key InvalidDer h p = h rsa key p
held-fault PublicKey contents key (OtherAlgorithm other) h p =
    let same = (public-unique h.0 rsa h.1 key contents h.2 p).0 in
    other-rsa other (subst (IsAlgorithm other) same h.3) h.4
held-fault PublicKey contents key error h p = absurd h
held-fault RsaPublicKey contents key error h p = h
held-fault label contents key error h p = p

pub size-none : (size : ℕ) (integers inner : List ℕ) → inner ≡ element 0x30 integers
    → ((version behind : List ℕ) → integers ≡ element 0x02 version ++ behind → ⊥) → HasOtherSize size inner → ⊥
size-none size integers inner read none h =
    none h.0 h.1 (element-same 0x30 integers _ (sym read ∙ h.2))

pub size-answer : (r : Option ℕ) (version behind integers inner : List ℕ) → inner ≡ element 0x30 integers
    → integers ≡ element 0x02 version ++ behind
    → MatchOption r ((size : ℕ) → ¬ HasOtherModulus size behind) (λ size. HasOtherModulus size behind)
    → MatchOption r ((size : ℕ) → ¬ HasOtherSize size inner) (λ size. HasOtherSize size inner)
size-answer None version behind integers inner read first none = λ size h.
    let same = element-same 0x30 integers _ (sym read ∙ h.2) in
    let rest = (element-unique 0x02 version h.0 behind h.1 (sym first ∙ same)).1 in
    none size (subst (HasOtherModulus size) (sym rest) h.3)
size-answer (Some size) version behind integers inner read first some =
    (version, behind, read ∙ ap (element 0x30) first, some)

pub public-size-answer : (r : Option ℕ) (integers key : List ℕ) → key ≡ element 0x30 integers
    → MatchOption r ((size : ℕ) → ¬ HasOtherModulus size integers) (λ size. HasOtherModulus size integers)
    → MatchOption r ((size : ℕ) → ¬ HasOtherPublicSize size key) (λ size. HasOtherPublicSize size key)
public-size-answer None integers key read none = λ size h.
    none size (subst (HasOtherModulus size) (sym (element-same 0x30 integers h.0 (sym read ∙ h.1))) h.2)
public-size-answer (Some size) integers key read some = (integers, read, some)
