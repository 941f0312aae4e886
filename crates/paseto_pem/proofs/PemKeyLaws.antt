-- A key is that of one reading: its label and its contents tell it.
use Rattle.std.proofs.Common.{◌≡◌, ◌⊎◌, ℕ, List, inl, inr, refl, sym, ap, subst, ◌∙◌}
use Rattle.std.specs.Prelude.{Result, Ok, Err, IsErrAnd, ⊤}
use Rattle.std.specs.declared.alloc.Global.{Global}
use Rattle.std.specs.declared.vec.Vec.{Vec}
use Rattle.paseto_der.specs.Element.{element}
use Rattle.paseto_pem.specs.declared.label.Label.{Label}
use Rattle.paseto_pem.specs.declared.label.Label.TheVariants.{PrivateKey, EncryptedPrivateKey, PublicKey, EcPrivateKey, RsaPrivateKey, RsaPublicKey, OpenSshPrivateKey}
use Rattle.paseto_pem.specs.declared.found.Algorithm.{Algorithm}
use Rattle.paseto_pem.specs.declared.found.Algorithm.TheVariants.{Ed25519, EllipticCurve, Rsa, Unknown}
use Rattle.paseto_pem.specs.declared.error.PemError.{PemError}
use Rattle.paseto_pem.specs.declared.error.PemError.TheVariants.{OtherAlgorithm}
use Rattle.paseto_pem.specs.declared.pem_key.PemKey.{PemKey}
use Rattle.paseto_pem.specs.declared.pem_key.PemKey.TheVariants.{RsaPrivate, RsaPublic, P384Private, P384Public, Ed25519Private, Ed25519Public}
use Rattle.paseto_pem.specs.Algorithm.{IsAlgorithm, ed25519, rsa, secp384r1}
use Rattle.paseto_pem.specs.Error.{IsMemory}
use Rattle.paseto_pem.specs.Ed25519.{IsPrivateFault as IsEdwardsPrivateFault, IsPrivateOf as IsEdwardsPrivateOf, IsPublicFault as IsEdwardsPublicFault, IsPublicOf as IsEdwardsPublicOf}
use Rattle.paseto_pem.specs.Key.{Contents, Faults, ReadsHeld, ReadsText}
use Rattle.paseto_pem.specs.P384.{IsPrivateFault as IsCurvePrivateFault, IsPrivateOf as IsCurvePrivateOf, IsPublicFault as IsCurvePublicFault, IsPublicOf as IsCurvePublicOf, ec_private_key, p384}
use Rattle.paseto_pem.specs.PemKey.{IsHeldFault, IsHeldKey, IsNoKind, IsPemKey, IsPrivateKind, IsPublicKind, ReadsAnyKey, ReadsHeldKey}
use Rattle.paseto_pem.specs.Rsa.{IsPrivateFault as IsRsaPrivateFault, IsPrivateOf as IsRsaPrivateOf, IsPublicFault as IsRsaPublicFault, IsPublicOf as IsRsaPublicOf}
use Rattle.paseto_pem.proofs.AlgorithmLaws.{algorithm-one}
use Rattle.paseto_pem.proofs.InfoLaws.{private-unique, public-unique}
use Rattle.paseto_pem.proofs.KeyLaws.{at-octets, at-text, held-fault}

-- ---- the kind of each key

edwards-private : (label : Label) (contents key : List ℕ) → IsEdwardsPrivateOf label contents key → IsPrivateKind Ed25519 label contents
edwards-private label contents key p =
    subst (λ (l : Label). IsPrivateKind Ed25519 l contents) (sym p.is_private)
    (ed25519, element 0x04 p.seed, p.public, p.written.info, refl)

edwards-public : (label : Label) (contents key : List ℕ) → IsEdwardsPublicOf label contents key → IsPublicKind Ed25519 label contents
edwards-public label contents key p =
    subst (λ (l : Label). IsPublicKind Ed25519 l contents) (sym p.is_public) (ed25519, key, p.written, refl)

curve-private : (label : Label) (contents key : List ℕ) → IsCurvePrivateOf label contents key → IsPrivateKind EllipticCurve label contents
curve-private PrivateKey contents key p = (p384, ec_private_key p.number p.form.0, p.public, p.form.2, (secp384r1, refl))
curve-private EcPrivateKey contents key p = tt
curve-private label contents key p = absurd p.form

curve-public : (label : Label) (contents key : List ℕ) → IsCurvePublicOf label contents key → IsPublicKind EllipticCurve label contents
curve-public label contents key p =
    subst (λ (l : Label). IsPublicKind EllipticCurve l contents) (sym p.is_public) (p384, p.octets, p.written, (secp384r1, refl))

rsa-private : (label : Label) (contents key : List ℕ) → IsRsaPrivateOf label contents key → IsPrivateKind Rsa label contents
rsa-private PrivateKey contents key p = (rsa, p.inner, p.public, p.form, refl)
rsa-private RsaPrivateKey contents key p = tt
rsa-private label contents key p = absurd p.form

rsa-public : (label : Label) (contents key : List ℕ) → IsRsaPublicOf label contents key → IsPublicKind Rsa label contents
rsa-public PublicKey contents key p = (rsa, key, p.held, refl)
rsa-public RsaPublicKey contents key p = tt
rsa-public label contents key p = absurd p.held

-- ---- one kind

curve-label : (kind : Algorithm) (contents : List ℕ) → IsPrivateKind kind EcPrivateKey contents → kind ≡ EllipticCurve
curve-label EllipticCurve contents p = refl
curve-label kind contents p = absurd p

rsa-label : (kind : Algorithm) (contents : List ℕ) → IsPrivateKind kind RsaPrivateKey contents → kind ≡ Rsa
rsa-label Rsa contents p = refl
rsa-label kind contents p = absurd p

public-rsa-label : (kind : Algorithm) (contents : List ℕ) → IsPublicKind kind RsaPublicKey contents → kind ≡ Rsa
public-rsa-label Rsa contents p = refl
public-rsa-label kind contents p = absurd p

private-one : (a b : Algorithm) (label : Label) (contents : List ℕ) → IsPrivateKind a label contents → IsPrivateKind b label contents → a ≡ b
private-one a b PrivateKey contents p q =
    let same = (private-unique p.0 q.0 p.1 q.1 contents p.2 q.2 p.3 q.3).0 in
    algorithm-one a b q.0 (subst (λ (l : List ℕ). IsAlgorithm a l) same p.4) q.4
private-one a b EcPrivateKey contents p q = curve-label a contents p ∙ sym (curve-label b contents q)
private-one a b RsaPrivateKey contents p q = rsa-label a contents p ∙ sym (rsa-label b contents q)
private-one a b label contents p q = absurd p

public-one : (a b : Algorithm) (label : Label) (contents : List ℕ) → IsPublicKind a label contents → IsPublicKind b label contents → a ≡ b
public-one a b PublicKey contents p q =
    let same = (public-unique p.0 q.0 p.1 q.1 contents p.2 q.2).0 in
    algorithm-one a b q.0 (subst (λ (l : List ℕ). IsAlgorithm a l) same p.3) q.3
public-one a b RsaPublicKey contents p q = public-rsa-label a contents p ∙ sym (public-rsa-label b contents q)
public-one a b label contents p q = absurd p

not-both : (a b : Algorithm) (label : Label) (contents : List ℕ) → IsPrivateKind a label contents → IsPublicKind b label contents → ⊥
not-both a b PublicKey contents p q = absurd p
not-both a b RsaPublicKey contents p q = absurd p
not-both a b label contents p q = absurd q

-- a key of an algorithm
abbrev IsPrivateKeyOf : Algorithm → PemKey → Type 0
IsPrivateKeyOf Ed25519 (Ed25519Private key) = ⊤
IsPrivateKeyOf EllipticCurve (P384Private key) = ⊤
IsPrivateKeyOf Rsa (RsaPrivate key) = ⊤
IsPrivateKeyOf _ _ = ⊥

abbrev IsPublicKeyOf : Algorithm → PemKey → Type 0
IsPublicKeyOf Ed25519 (Ed25519Public key) = ⊤
IsPublicKeyOf EllipticCurve (P384Public key) = ⊤
IsPublicKeyOf Rsa (RsaPublic key) = ⊤
IsPublicKeyOf _ _ = ⊥

module _ (label : Label) (contents : List ℕ) where
  -- a key has a kind
  some-kind : (key : PemKey) → IsHeldKey key label contents
      → ((kind : Algorithm) × IsPrivateKind kind label contents) ⊎ ((kind : Algorithm) × IsPublicKind kind label contents)
  some-kind (RsaPrivate key) p = inl (Rsa, rsa-private label contents key p)
  some-kind (RsaPublic key) p = inr (Rsa, rsa-public label contents key p)
  some-kind (P384Private key) p = inl (EllipticCurve, curve-private label contents key p)
  some-kind (P384Public key) p = inr (EllipticCurve, curve-public label contents key p)
  some-kind (Ed25519Private key) p = inl (Ed25519, edwards-private label contents key p)
  some-kind (Ed25519Public key) p = inr (Ed25519, edwards-public label contents key p)

  private-key : (kind : Algorithm) → IsPrivateKind kind label contents → (key : PemKey) → IsHeldKey key label contents → IsPrivateKeyOf kind key
  private-key kind h (RsaPrivate key) p =
      subst (λ (k : Algorithm). IsPrivateKeyOf k (RsaPrivate key)) (private-one Rsa kind label contents (rsa-private label contents key p) h) tt
  private-key kind h (P384Private key) p =
      subst (λ (k : Algorithm). IsPrivateKeyOf k (P384Private key)) (private-one EllipticCurve kind label contents (curve-private label contents key p) h) tt
  private-key kind h (Ed25519Private key) p =
      subst (λ (k : Algorithm). IsPrivateKeyOf k (Ed25519Private key)) (private-one Ed25519 kind label contents (edwards-private label contents key p) h) tt
  private-key kind h (RsaPublic key) p = absurd (not-both kind Rsa label contents h (rsa-public label contents key p))
  private-key kind h (P384Public key) p = absurd (not-both kind EllipticCurve label contents h (curve-public label contents key p))
  private-key kind h (Ed25519Public key) p = absurd (not-both kind Ed25519 label contents h (edwards-public label contents key p))

  public-key : (kind : Algorithm) → IsPublicKind kind label contents → (key : PemKey) → IsHeldKey key label contents → IsPublicKeyOf kind key
  public-key kind h (RsaPublic key) p =
      subst (λ (k : Algorithm). IsPublicKeyOf k (RsaPublic key)) (public-one Rsa kind label contents (rsa-public label contents key p) h) tt
  public-key kind h (P384Public key) p =
      subst (λ (k : Algorithm). IsPublicKeyOf k (P384Public key)) (public-one EllipticCurve kind label contents (curve-public label contents key p) h) tt
  public-key kind h (Ed25519Public key) p =
      subst (λ (k : Algorithm). IsPublicKeyOf k (Ed25519Public key)) (public-one Ed25519 kind label contents (edwards-public label contents key p) h) tt
  public-key kind h (RsaPrivate key) p = absurd (not-both Rsa kind label contents (rsa-private label contents key p) h)
  public-key kind h (P384Private key) p = absurd (not-both EllipticCurve kind label contents (curve-private label contents key p) h)
  public-key kind h (Ed25519Private key) p = absurd (not-both Ed25519 kind label contents (edwards-private label contents key p) h)

-- ---- the answers for contents

-- contents that can be one kind of key only
pub record OneKind (label : Label) (contents : List ℕ) (make : List ℕ → PemKey) (IsKeyOf : Contents) (IsFaultOf : Faults) : Type 0 where
  pub is : (key : List ℕ) → IsKeyOf label contents key → IsHeldKey (make key) label contents
  pub only : (key : PemKey) → IsHeldKey key label contents → (k : List ℕ) × (key ≡ make k) × IsKeyOf label contents k
  pub fault : (error : PemError) → IsFaultOf label contents error → IsHeldFault label contents error

pub made-one : {label : Label} {contents : List ℕ} {make : List ℕ → PemKey} {IsKeyOf : Contents} {IsFaultOf : Faults}
    → OneKind label contents make IsKeyOf IsFaultOf → (key : List ℕ) → ReadsHeld IsKeyOf IsFaultOf label contents (Ok key)
    → ReadsHeldKey label contents (Ok (make key))
made-one {label} {contents} {make} {IsKeyOf} {IsFaultOf} one key r = record {
  found = one.is key r.found;
  read = λ other p. let o = one.only other p in ap make (r.read o.0 o.2) ∙ sym o.1;
  refused = tt;
}

pub refused-one : {label : Label} {contents : List ℕ} {make : List ℕ → PemKey} {IsKeyOf : Contents} {IsFaultOf : Faults}
    → OneKind label contents make IsKeyOf IsFaultOf → (error : PemError) (answer : Result PemKey PemError) → IsErrAnd answer (λ e. e ≡ error)
    → ReadsHeld IsKeyOf IsFaultOf label contents (Err error) → ReadsHeldKey label contents answer
refused-one {label} {contents} {make} {IsKeyOf} {IsFaultOf} one error (Ok key) same r = absurd same
refused-one {label} {contents} {make} {IsKeyOf} {IsFaultOf} one error (Err e) same r =
    subst (λ (x : PemError). ReadsHeldKey label contents (Err x)) (sym same)
    (record {
      found = tt;
      read = λ other p. let o = one.only other p in r.read o.0 o.2;
      refused = elim r.refused [ inl memory ↦ inl memory | inr other ↦ inr (one.fault error other) ];
    })

module _ (label : Label) (contents : List ℕ) where
  only-rsa-private : IsPrivateKind Rsa label contents → (key : PemKey) → IsHeldKey key label contents
      → (k : List ℕ) × (key ≡ RsaPrivate k) × IsRsaPrivateOf label contents k
  only-rsa-private h (RsaPrivate key) p = (key, refl, p)
  only-rsa-private h key p = absurd (private-key label contents Rsa h key p)

  pub rsa-private-one : IsPrivateKind Rsa label contents → OneKind label contents RsaPrivate IsRsaPrivateOf IsRsaPrivateFault
  rsa-private-one h = record { is = λ key p. p; only = only-rsa-private h; fault = λ error f. inr (inl (Rsa, h, f)) }

  only-rsa-public : IsPublicKind Rsa label contents → (key : PemKey) → IsHeldKey key label contents
      → (k : List ℕ) × (key ≡ RsaPublic k) × IsRsaPublicOf label contents k
  only-rsa-public h (RsaPublic key) p = (key, refl, p)
  only-rsa-public h key p = absurd (public-key label contents Rsa h key p)

  pub rsa-public-one : IsPublicKind Rsa label contents → OneKind label contents RsaPublic IsRsaPublicOf IsRsaPublicFault
  rsa-public-one h = record { is = λ key p. p; only = only-rsa-public h; fault = λ error f. inr (inr (Rsa, h, f)) }

  only-curve-private : IsPrivateKind EllipticCurve label contents → (key : PemKey) → IsHeldKey key label contents
      → (k : List ℕ) × (key ≡ P384Private k) × IsCurvePrivateOf label contents k
  only-curve-private h (P384Private key) p = (key, refl, p)
  only-curve-private h key p = absurd (private-key label contents EllipticCurve h key p)

  pub curve-private-one : IsPrivateKind EllipticCurve label contents → OneKind label contents P384Private IsCurvePrivateOf IsCurvePrivateFault
  curve-private-one h = record { is = λ key p. p; only = only-curve-private h; fault = λ error f. inr (inl (EllipticCurve, h, f)) }

  only-curve-public : IsPublicKind EllipticCurve label contents → (key : PemKey) → IsHeldKey key label contents
      → (k : List ℕ) × (key ≡ P384Public k) × IsCurvePublicOf label contents k
  only-curve-public h (P384Public key) p = (key, refl, p)
  only-curve-public h key p = absurd (public-key label contents EllipticCurve h key p)

  pub curve-public-one : IsPublicKind EllipticCurve label contents → OneKind label contents P384Public IsCurvePublicOf IsCurvePublicFault
  curve-public-one h = record { is = λ key p. p; only = only-curve-public h; fault = λ error f. inr (inr (EllipticCurve, h, f)) }

  only-edwards-private : IsPrivateKind Ed25519 label contents → (key : PemKey) → IsHeldKey key label contents
      → (k : List ℕ) × (key ≡ Ed25519Private k) × IsEdwardsPrivateOf label contents k
  only-edwards-private h (Ed25519Private key) p = (key, refl, p)
  only-edwards-private h key p = absurd (private-key label contents Ed25519 h key p)

  pub edwards-private-one : IsPrivateKind Ed25519 label contents → OneKind label contents Ed25519Private IsEdwardsPrivateOf IsEdwardsPrivateFault
  edwards-private-one h = record { is = λ key p. p; only = only-edwards-private h; fault = λ error f. inr (inl (Ed25519, h, f)) }

  only-edwards-public : IsPublicKind Ed25519 label contents → (key : PemKey) → IsHeldKey key label contents
      → (k : List ℕ) × (key ≡ Ed25519Public k) × IsEdwardsPublicOf label contents k
  only-edwards-public h (Ed25519Public key) p = (key, refl, p)
  only-edwards-public h key p = absurd (public-key label contents Ed25519 h key p)

  pub edwards-public-one : IsPublicKind Ed25519 label contents → OneKind label contents Ed25519Public IsEdwardsPublicOf IsEdwardsPublicFault
  edwards-public-one h = record { is = λ key p. p; only = only-edwards-public h; fault = λ error f. inr (inr (Ed25519, h, f)) }

  -- keys of another algorithm
  pub unknown-private : IsPrivateKind Unknown label contents → ReadsHeldKey label contents (Err (OtherAlgorithm Unknown))
  unknown-private h = record {
    found = tt;
    read = λ key p. absurd (private-key label contents Unknown h key p);
    refused = inr (inr (inl (Unknown, h, refl)));
  }

  pub unknown-public : IsPublicKind Unknown label contents → ReadsHeldKey label contents (Err (OtherAlgorithm Unknown))
  unknown-public h = record {
    found = tt;
    read = λ key p. absurd (public-key label contents Unknown h key p);
    refused = inr (inr (inr (Unknown, h, refl)));
  }

-- what tells no algorithm is no key
no-kind : (label : Label) (contents : List ℕ) (error : PemError) → IsNoKind label contents error
    → ((kind : Algorithm) × IsPrivateKind kind label contents) ⊎ ((kind : Algorithm) × IsPublicKind kind label contents) → ⊥
no-kind PrivateKey contents error h (inl p) = h.0 p.1.0 p.1.1 p.1.2 p.1.3
no-kind PrivateKey contents error h (inr p) = p.1
no-kind PublicKey contents error h (inl p) = p.1
no-kind PublicKey contents error h (inr p) = h.0 p.1.0 p.1.1 p.1.2
no-kind EncryptedPrivateKey contents error h (inl p) = p.1
no-kind EncryptedPrivateKey contents error h (inr p) = p.1
no-kind OpenSshPrivateKey contents error h (inl p) = p.1
no-kind OpenSshPrivateKey contents error h (inr p) = p.1
no-kind label contents error h k = h

pub refused-kind : (label : Label) (contents : List ℕ) (error : PemError) → IsNoKind label contents error → ReadsHeldKey label contents (Err error)
refused-kind label contents error h = record {
  found = tt;
  read = λ key p. absurd (no-kind label contents error h (some-kind label contents key p));
  refused = inr (inl h);
}

pub refused-same : (label : Label) (contents : List ℕ) (error : PemError) (answer : Result PemKey PemError) → IsErrAnd answer (λ e. e ≡ error)
    → IsNoKind label contents error → ReadsHeldKey label contents answer
refused-same label contents error (Ok key) same h = absurd same
refused-same label contents error (Err e) same h =
    subst (λ (x : PemError). ReadsHeldKey label contents (Err x)) (sym same) (refused-kind label contents error h)

-- ---- the answers for a text

module _ (text : List ℕ) where
  no-text : (error : PemError) → ReadsText text (Err error) → (key : PemKey) → IsPemKey key text → IsMemory error
  no-text error h (RsaPrivate key) p = h.read p.label p.contents p.bytes p.written
  no-text error h (RsaPublic key) p = h.read p.label p.contents p.bytes p.written
  no-text error h (P384Private key) p = h.read p.label p.contents p.bytes p.written
  no-text error h (P384Public key) p = h.read p.label p.contents p.bytes p.written
  no-text error h (Ed25519Private key) p = h.read p.label p.contents p.bytes p.written
  no-text error h (Ed25519Public key) p = h.read p.label p.contents p.bytes p.written

  pub refused-any : (error : PemError) (answer : Result PemKey PemError) → IsErrAnd answer (λ e. e ≡ error)
      → ReadsText text (Err error) → ReadsAnyKey text answer
  refused-any error (Ok key) same h = absurd same
  refused-any error (Err e) same h =
      subst (λ (x : PemError). ReadsAnyKey text (Err x)) (sym same)
      (record { found = tt; read = no-text error h; refused = inl h.refused })

  module _ (label : Label) (held : Vec ℕ Global) (octets : List ℕ) (h : ReadsText text (Ok (label, held))) (are : octets ≡ held.items) where
    to-held : (key : PemKey) → IsPemKey key text → IsHeldKey key label octets
    to-held (RsaPrivate key) p = at-octets IsRsaPrivateOf IsRsaPrivateFault text label held octets h are key p
    to-held (RsaPublic key) p = at-octets IsRsaPublicOf IsRsaPublicFault text label held octets h are key p
    to-held (P384Private key) p = at-octets IsCurvePrivateOf IsCurvePrivateFault text label held octets h are key p
    to-held (P384Public key) p = at-octets IsCurvePublicOf IsCurvePublicFault text label held octets h are key p
    to-held (Ed25519Private key) p = at-octets IsEdwardsPrivateOf IsEdwardsPrivateFault text label held octets h are key p
    to-held (Ed25519Public key) p = at-octets IsEdwardsPublicOf IsEdwardsPublicFault text label held octets h are key p

    to-text : (key : PemKey) → IsHeldKey key label octets → IsPemKey key text
    to-text (RsaPrivate key) p = at-text IsRsaPrivateOf IsRsaPrivateFault text label held octets h are key p
    to-text (RsaPublic key) p = at-text IsRsaPublicOf IsRsaPublicFault text label held octets h are key p
    to-text (P384Private key) p = at-text IsCurvePrivateOf IsCurvePrivateFault text label held octets h are key p
    to-text (P384Public key) p = at-text IsCurvePublicOf IsCurvePublicFault text label held octets h are key p
    to-text (Ed25519Private key) p = at-text IsEdwardsPrivateOf IsEdwardsPrivateFault text label held octets h are key p
    to-text (Ed25519Public key) p = at-text IsEdwardsPublicOf IsEdwardsPublicFault text label held octets h are key p

    -- the answer for a text is that for its contents
    pub read-any : (answer : Result PemKey PemError) → ReadsHeldKey label octets answer → ReadsAnyKey text answer
    read-any (Ok key) r = record { found = to-text key r.found; read = λ other p. r.read other (to-held other p); refused = tt }
    read-any (Err e) r = record {
      found = tt;
      read = λ key p. r.read key (to-held key p);
      refused = held-fault IsHeldFault text label held octets h are e r.refused;
    }
