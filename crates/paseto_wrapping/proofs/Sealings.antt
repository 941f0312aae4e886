-- The parts of the payload of a sealed key.
use Rattle.std.proofs.Common.{◌≡◌, ◌≢◌, ◌⊎◌, ℕ, ◌+◌, List, ◌++◌, length, take, drop, Result, Ok, Err, IfOk, IfErr, inl, inr, refl, sym, ap, subst, ◌∙◌, arith, append_assoc, length-append, length-drop}
use Rattle.std.specs.Prelude.{None, option_map}
use Rattle.std.proofs.lemmas.List.{take_at, drop_at, take-append-drop, length-take-le}
use Rattle.std.specs.declared.alloc.Global.{Global}
use Rattle.std.specs.declared.vec.Vec.{Vec}
use Rattle.rusty_paseto_primitives.specs.Bytes.{IsBytes}
use Rattle.rusty_paseto_primitives.proofs.Blake2Lengths.{IsBytes-blake2b}
use Rattle.rusty_paseto_primitives.proofs.ByteLists.{IsBytes-append, IsBytes-drop, IsBytes-take}
use Rattle.rusty_paseto_primitives.proofs.HmacLengths.{IsBytes-sha384}
use Rattle.rusty_paseto_paserk.specs.declared.header.PaserkVersion.{PaserkVersion}
use Rattle.rusty_paseto_paserk.specs.declared.header.PaserkVersion.TheVariants.{V3}
use Rattle.paseto_wrapping.specs.declared.header.WrappedType.TheVariants.{Seal}
use Rattle.paseto_p384.specs.declared.agreement.AgreementError.{AgreementError}
use Rattle.paseto_p384.specs.declared.agreement.AgreementError.TheVariants.{InvalidPoint as NoPoint}
use Rattle.paseto_p384.specs.Agreement.{IsAgreementFault, p384_shared}
use Rattle.paseto_p384.specs.Encoding.{decoded as decoded384}
use Rattle.paseto_p384.specs.P384.{IsPrivate, p384_public}
use Rattle.paseto_p384.proofs.AgreementLaws.{public-bytes, public-length, public-point, shared-same, shared-some}
use Rattle.paseto_p384.proofs.OptionLaws.{none-some, some-same}
use Rattle.paseto_wrapping.specs.declared.family.Family.{Family}
use Rattle.paseto_wrapping.specs.declared.family.Family.TheVariants.{Nist, Sodium}
use Rattle.paseto_wrapping.specs.declared.error.WrapError.{WrapError}
use Rattle.paseto_wrapping.specs.declared.error.WrapError.TheVariants.{NoWrappedKey, OtherVersion, OtherType, InvalidText, InvalidNonce, LongPassword, InvalidCost, TooCostly, InvalidPrivateKey, InvalidPoint, SmallOrder, WrongKey, InvalidKey, Memory}
use Rattle.paseto_wrapping.specs.Error.{IsMemory}
use Rattle.paseto_wrapping.specs.Family.{family_of, tag_length}
use Rattle.paseto_wrapping.specs.Reading.{InText, IsOfPayload, Unwraps}
use Rattle.paseto_wrapping.specs.Sealing.{IsOpenFault, IsOpener, IsPeer, IsSealFault, IsSealed, IsShared, SealsFor, c_of, crypted, encryption_of, epk_of, own_public, own_secret, payload, point_length, sealed_length, t_of, tag_of}
use Rattle.paseto_wrapping.proofs.Families.{encrypted-encrypted, length-encrypted, length-tag, IsBytes-encrypted, IsBytes-tag}

-- ---- ciphertexts and tags

IsBytes-encryption_of : (family : Family) (message publics : List ℕ) → IsBytes (encryption_of family message publics)
unfolding encryption_of
IsBytes-encryption_of Nist message publics = IsBytes-sha384 message
IsBytes-encryption_of Sodium message publics =
    IsBytes-append _ _ (IsBytes-blake2b _ 32 message) (IsBytes-blake2b _ 24 publics)

crypted-crypted : (version : PaserkVersion) (xk epk public bytes : List ℕ) → crypted version xk epk public (crypted version xk epk public bytes) ≡ bytes
unfolding crypted
crypted-crypted version xk epk public bytes = encrypted-encrypted (family_of version) _ _ bytes

length-crypted : (version : PaserkVersion) (xk epk public bytes : List ℕ) → length (crypted version xk epk public bytes) ≡ length bytes
unfolding crypted
length-crypted version xk epk public bytes = length-encrypted (family_of version) _ _ bytes

IsBytes-crypted : (version : PaserkVersion) (xk epk public bytes : List ℕ) → IsBytes bytes → IsBytes (crypted version xk epk public bytes)
unfolding crypted
IsBytes-crypted version xk epk public bytes h =
    IsBytes-encrypted (family_of version) _ _ bytes (IsBytes-take 32 _ (IsBytes-encryption_of (family_of version) _ _)) h

length-tag_of : (version : PaserkVersion) (xk epk public c : List ℕ) → length (tag_of version xk epk public c) ≡ tag_length (family_of version)
unfolding tag_of
length-tag_of version xk epk public c = length-tag (family_of version) _ _

-- ---- agreement

-- what is shared is one
shared-one : (family : Family) (secret public x y : List ℕ) → IsShared family secret public x → IsShared family secret public y → x ≡ y
shared-one Nist secret public x y h k = some-same x y (sym h ∙ k)
shared-one Sodium secret public x y h k = h.0 ∙ sym k.0

-- nothing is shared with what is no point
shared-point : (secret public xk : List ℕ) → decoded384 public ≡ None → IsShared Nist secret public xk → ⊥
shared-point secret public xk none h =
    let lost : p384_shared secret public ≡ None = ap (option_map _) none in
    none-some xk (sym lost ∙ h)

-- the errors are a payload's
pub seal_fault : (family : Family) (version : PaserkVersion) (private input : List ℕ) (error : WrapError)
    → IsOpenFault family version private input error → IsOfPayload error
seal_fault family version private input NoWrappedKey h = h
seal_fault family version private input (OtherVersion found) h = h
seal_fault family version private input (OtherType found) h = h
seal_fault family version private input InvalidText h = tt
seal_fault family version private input InvalidNonce h = absurd h
seal_fault family version private input LongPassword h = absurd h
seal_fault family version private input InvalidCost h = absurd h
seal_fault family version private input TooCostly h = absurd h
seal_fault family version private input InvalidPrivateKey h = tt
seal_fault family version private input InvalidPoint h = tt
seal_fault family version private input SmallOrder h = tt
seal_fault family version private input WrongKey h = tt
seal_fault family version private input InvalidKey h = h
seal_fault family version private input (Memory source) h = h

-- ---- parts

pub record AreParts (family : Family) (input tag epk body : List ℕ) : Type 0 where
  pub tag_is : t_of family input ≡ tag
  pub epk_is : epk_of family input ≡ epk
  pub body_is : c_of family input ≡ body

joined_parts : (family : Family) (input tag epk body : List ℕ) → length tag ≡ tag_length family → length epk ≡ point_length family
    → input ≡ tag ++ epk ++ body → AreParts family input tag epk body
joined_parts family input tag epk body of_tag of_epk e =
    let f : input ≡ tag ++ (epk ++ body) = e ∙ append_assoc tag epk body in
    let rest : drop (tag_length family) input ≡ epk ++ body =
    ap (drop (tag_length family)) f ∙ drop_at tag (epk ++ body) (tag_length family) of_tag in
    record {
      tag_is = ap (take (tag_length family)) f ∙ take_at tag (epk ++ body) (tag_length family) of_tag;
      epk_is = ap (take (point_length family)) rest ∙ take_at epk body (point_length family) of_epk;
      body_is = ap (drop (point_length family)) rest ∙ drop_at epk body (point_length family) of_epk;
    }

cut_parts : (family : Family) (input : List ℕ) → t_of family input ++ epk_of family input ++ c_of family input ≡ input
cut_parts family input =
    append_assoc (t_of family input) (epk_of family input) (c_of family input)
    ∙ ap (λ (rest : List ℕ). t_of family input ++ rest) (take-append-drop (point_length family) (drop (tag_length family) input))
    ∙ take-append-drop (tag_length family) input

whole_length : (family : Family) → tag_length family + point_length family + 32 ≡ sealed_length family
whole_length Nist = refl
whole_length Sodium = refl

module _ (family : Family) (version : PaserkVersion) (same : family_of version ≡ family) (private input : List ℕ) where
  tag_length_of : (xk epk public c : List ℕ) → length (tag_of version xk epk public c) ≡ tag_length family
  tag_length_of xk epk public c = length-tag_of version xk epk public c ∙ ap (λ f. tag_length f) same

  parts_of : (key : List ℕ) (is : SealsFor family version private input key)
      → AreParts family input (tag_of version is.1 is.0 (own_public family private) (crypted version is.1 is.0 (own_public family private) key)) is.0
      (crypted version is.1 is.0 (own_public family private) key)
  parts_of key is = joined_parts family input _ is.0 _ (tag_length_of _ _ _ _) is.4 is.6

  seals_length : (key : List ℕ) → SealsFor family version private input key → length input ≡ sealed_length family
  seals_length key is =
      let public : List ℕ = own_public family private in
      let body : List ℕ = crypted version is.1 is.0 public key in
      let tag : List ℕ = tag_of version is.1 is.0 public body in
      let whole : length input ≡ length (tag ++ is.0 ++ body) = ap length is.6 in
      let sum : length input ≡ tag_length family + point_length family + 32 =
      omega (
        arith,
        whole,
        length-append (tag ++ is.0) body,
        length-append tag is.0,
        tag_length_of is.1 is.0 public body,
        length-crypted version is.1 is.0 public key,
        is.3,
        is.4,
      ) in
      sum ∙ whole_length family

  pub open_length : length input ≢ sealed_length family
      → Unwraps (SealsFor family version private) (IsOpenFault family version private) input (Err InvalidText)
  open_length other = record {
    bytes = tt;
    found = tt;
    read = λ key bytes is. absurd (other (seals_length key is));
    refused = inr other;
  }

  -- an error that is a fault of what is opened by no key
  pub open_refused : (error : WrapError) → IsOpenFault family version private input error
      → ((key : List ℕ) → SealsFor family version private input key → ⊥)
      → Unwraps (SealsFor family version private) (IsOpenFault family version private) input (Err error)
  open_refused error fault none = record {
    bytes = tt;
    found = tt;
    read = λ key bytes is. absurd (none key is);
    refused = inr fault;
  }

  -- with the ephemeral public key nothing is shared
  pub open_unshared : (epk : List ℕ) → epk ≡ epk_of family input → length input ≡ sealed_length family → IsOpener family private → IsPeer family epk
      → ((xk : List ℕ) → IsShared family (own_secret family private) epk xk → ⊥)
      → Unwraps (SealsFor family version private) (IsOpenFault family version private) input (Err SmallOrder)
  open_unshared epk e long opener peer none =
      let lost : (xk : List ℕ) → IsShared family (own_secret family private) (epk_of family input) xk → ⊥ =
      λ xk h. none xk (subst (λ (p : List ℕ). IsShared family (own_secret family private) p xk) (sym e) h) in
      open_refused SmallOrder (long, opener, subst (λ (p : List ℕ). IsPeer family p) e peer, lost)
      (λ key is. lost is.1 (subst (λ (p : List ℕ). IsShared family (own_secret family private) p is.1) (sym (parts_of key is).epk_is) is.5))

  -- a payload that is cut into its parts
  module _ (tag epk body public xk : List ℕ) (of_input : IsBytes input) (long : length input ≡ sealed_length family) (opener : IsOpener family private)
      (tag_is : t_of family input ≡ tag) (epk_is : epk_of family input ≡ epk) (body_is : c_of family input ≡ body)
      (public_is : public ≡ own_public family private) (shared : IsShared family (own_secret family private) epk xk) where
    whole : input ≡ tag ++ epk ++ body
    whole = sym (cut_parts family input) ∙ rw (tag_is, epk_is, body_is) refl

    rest_length : length (drop (tag_length family) input) ≡ point_length family + 32
    rest_length = omega (arith, length-drop (tag_length family) input, long, whole_length family)

    epk_length : length epk ≡ point_length family
    epk_length = ap length (sym epk_is) ∙ length-take-le (point_length family) (drop (tag_length family) input) (omega (arith, rest_length))

    body_length : length body ≡ 32
    body_length = ap length (sym body_is) ∙ (omega (arith, rest_length, length-drop (point_length family) (drop (tag_length family) input)))

    body_bytes : IsBytes body
    body_bytes = subst IsBytes body_is (IsBytes-drop (point_length family) (drop (tag_length family) input) (IsBytes-drop (tag_length family) input of_input))

    -- what is shared with a key's ephemeral public key is shared here
    one_secret : (key : List ℕ) (is : SealsFor family version private input key) → xk ≡ is.1
    one_secret key is =
        let e : epk ≡ is.0 = sym epk_is ∙ (parts_of key is).epk_is in
        shared-one family (own_secret family private) is.0 xk is.1 (subst (λ (p : List ℕ). IsShared family (own_secret family private) p xk) e shared) is.5

    own_body : (key : List ℕ) (is : SealsFor family version private input key) → body ≡ crypted version xk epk public key
    own_body key is =
        let parts = parts_of key is in
        let e : epk ≡ is.0 = sym epk_is ∙ parts.epk_is in
        sym body_is ∙ parts.body_is ∙ rw (one_secret key is, e, public_is) refl

    own_tag : (key : List ℕ) → SealsFor family version private input key → tag ≡ tag_of version xk epk public body
    own_tag key is =
        let parts = parts_of key is in
        let e : epk ≡ is.0 = sym epk_is ∙ parts.epk_is in
        sym tag_is ∙ parts.tag_is ∙ rw (own_body key is, one_secret key is, e, public_is) refl

    own_key : (key : List ℕ) → SealsFor family version private input key → crypted version xk epk public body ≡ key
    own_key key is = ap (crypted version xk epk public) (own_body key is) ∙ crypted-crypted version xk epk public key

    made : (key : List ℕ) → tag ≡ tag_of version xk epk public body → key ≡ crypted version xk epk public body → SealsFor family version private input key
    made key tagged e =
        let back : crypted version xk epk public key ≡ body = ap (crypted version xk epk public) e ∙ crypted-crypted version xk epk public body in
        let size : length key ≡ 32 = ap length e ∙ length-crypted version xk epk public body ∙ body_length in
        (epk, xk, opener, size, epk_length, shared, whole ∙ rw (← public_is, back, tagged) refl)

    pub open_cut : (answer : Result (Vec ℕ Global) WrapError)
        → IfOk answer (λ key. (tag ≡ tag_of version xk epk public body) × (key.items ≡ crypted version xk epk public body))
        → IfErr answer (λ error. IsMemory error ⊎ ((error ≡ WrongKey) × (tag ≢ tag_of version xk epk public body)))
        → Unwraps (SealsFor family version private) (IsOpenFault family version private) input answer
    open_cut (Ok key) ok err = record {
      bytes = subst IsBytes (sym ok.1) (IsBytes-crypted version xk epk public body body_bytes);
      found = made key.items ok.0 ok.1;
      read = λ other bytes is. ok.1 ∙ own_key other is;
      refused = tt;
    }
    open_cut (Err error) ok (inl memory) = record {
      bytes = tt;
      found = tt;
      read = λ key bytes is. memory;
      refused = inl memory;
    }
    open_cut (Err error) ok (inr wrong) =
        subst (λ (e : WrapError). Unwraps (SealsFor family version private) (IsOpenFault family version private) input (Err e)) (sym wrong.0)
        (open_refused WrongKey (
          xk,
          long,
          opener,
          subst (λ (p : List ℕ). IsShared family (own_secret family private) p xk) (sym epk_is) shared,
          (rw (tag_is, epk_is, body_is, ← public_is) wrong.1),
        )
        (λ key is. wrong.1 (own_tag key is)))

-- ---- what the agreement of P-384 answers

pub point_fault : (private epk : List ℕ) (error : AgreementError) → error ≡ NoPoint → IsAgreementFault private epk error
    → IsPrivate private × (decoded384 epk ≡ None)
point_fault private epk error e h = subst (λ (x : AgreementError). IsAgreementFault private epk x) e h

module _ (version : PaserkVersion) (same : family_of version ≡ Nist) (private input epk : List ℕ) (e : epk ≡ epk_of Nist input) (long : length input ≡ 129) where
  pub open_pointless : IsPrivate private × (decoded384 epk ≡ None)
      → Unwraps (SealsFor Nist version private) (IsOpenFault Nist version private) input (Err InvalidPoint)
  open_pointless h =
      let lost : decoded384 (epk_of Nist input) ≡ None = ap decoded384 (sym e) ∙ h.1 in
      open_refused Nist version same private input InvalidPoint (long, h.0, λ peer. peer lost)
      (λ key is. shared-point private is.0 is.1 (ap decoded384 (sym (parts_of Nist version same private input key is).epk_is) ∙ lost) is.5)

-- ---- sealing and opening in version 3

pub IsBytes-payload : (version : PaserkVersion) (xk epk public key : List ℕ) → IsBytes epk → IsBytes key → IsBytes (payload version xk epk public key)
unfolding tag_of
IsBytes-payload version xk epk public key of_epk of_key =
    let c : List ℕ = crypted version xk epk public key in
    IsBytes-append (tag_of version xk epk public c ++ epk) c (IsBytes-append (tag_of version xk epk public c) epk (IsBytes-tag _ _ _) of_epk)
    (IsBytes-crypted version xk epk public key of_key)

pub sealed-unsealed : (private ephemeral key text : List ℕ) → IsPrivate private → IsBytes key × (length key ≡ 32)
    → IsSealed V3 (p384_public private) ephemeral key text → InText V3 Seal (SealsFor Nist V3 private) text key
sealed-unsealed private ephemeral key text own of_key h =
    let made = h.1.3 in
    let epk : List ℕ = p384_public ephemeral in
    let bytes = subst IsBytes (sym made.2) (IsBytes-payload V3 made.0 epk (p384_public private) key (public-bytes ephemeral) of_key.0) in
    (h.0, (bytes, h.2), (epk, made.0, own, of_key.1, public-length ephemeral, shared-same private ephemeral own h.1.0 ∙ made.1, made.2))

pub seal-memory : (private ephemeral : List ℕ) (error : WrapError) → IsPrivate private → IsPrivate ephemeral
    → IsSealFault Nist (p384_public private) ephemeral error → IsMemory error
seal-memory private ephemeral NoWrappedKey own secret h = h
seal-memory private ephemeral (OtherVersion found) own secret h = h
seal-memory private ephemeral (OtherType found) own secret h = h
seal-memory private ephemeral InvalidText own secret h = h
seal-memory private ephemeral InvalidNonce own secret h = h
seal-memory private ephemeral LongPassword own secret h = h
seal-memory private ephemeral InvalidCost own secret h = h
seal-memory private ephemeral TooCostly own secret h = h
seal-memory private ephemeral InvalidPrivateKey own secret h = h secret
seal-memory private ephemeral InvalidPoint own secret h = h.1 (public-length private, public-point private own)
seal-memory private ephemeral SmallOrder own secret h = elim h.2 [
  | inl small ↦ small
  | inr none ↦
      let some = shared-some ephemeral (p384_public private) (public-point private own) in
      none some.0 some.1
]
seal-memory private ephemeral WrongKey own secret h = h
seal-memory private ephemeral InvalidKey own secret h = h
seal-memory private ephemeral (Memory source) own secret h = tt
