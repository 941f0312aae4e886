-- Keys of Ed25519.
use Rattle.std.proofs.Common.{◌≡◌, ◌≢◌, ℕ, List, ◌++◌, length, take, drop, get_or, refl, sym, ap, subst, ◌∙◌}
use Rattle.std.specs.Prelude.{Option, None, Some}
use Rattle.std.proofs.lemmas.List.{drop_at, take_at}
use Rattle.paseto_der.specs.Element.{element}
use Rattle.paseto_ed25519.specs.Ed25519.{ed25519_public}
use Rattle.paseto_pem.specs.declared.label.Label.{Label}
use Rattle.paseto_pem.specs.declared.found.Algorithm.{Algorithm}
use Rattle.paseto_pem.specs.declared.found.Algorithm.TheVariants.{Ed25519, EllipticCurve, Rsa, Unknown}
use Rattle.paseto_pem.specs.declared.error.PemError.{PemError}
use Rattle.paseto_pem.specs.declared.error.PemError.TheVariants.{InvalidDer, OtherAlgorithm, OtherHalf, InvalidKey}
use Rattle.paseto_pem.specs.Algorithm.{IsAlgorithm, ed25519}
use Rattle.paseto_pem.specs.Ed25519.{IsPrivateOf, IsPrivateRefusal, IsPublicOf, IsPublicRefusal, IsSeed}
use Rattle.paseto_pem.specs.Info.{IsHalf, public_key_info}
use Rattle.paseto_pem.proofs.AlgorithmLaws.{ec-octets, ed25519-octets, rsa-octets}
use Rattle.paseto_pem.proofs.InfoLaws.{element-same, private-unique, public-unique}

-- another algorithm is not this one
other-edwards : (other : Algorithm) → IsAlgorithm other ed25519 → other ≢ Ed25519 → ⊥
other-edwards Ed25519 is other = other refl
other-edwards EllipticCurve is other =
    let second : 3 ≡ 7 = ap (λ (l : List ℕ). get_or l 1 0) (ed25519-octets ∙ is.1 ∙ ap (λ (l : List ℕ). l ++ is.0) (sym ec-octets)) in
    cc second
other-edwards Rsa is other =
    let second : 3 ≡ 9 = ap (λ (l : List ℕ). get_or l 1 0) (ed25519-octets ∙ is ∙ sym rsa-octets) in
    cc second
other-edwards Unknown is other = is.0 refl

pub seed-unique : (a b contents : List ℕ) (x y : Option (List ℕ)) → IsSeed a x contents → IsSeed b y contents → (a ≡ b) × (x ≡ y)
seed-unique a b contents x y p q =
    let same = private-unique ed25519 ed25519 (element 0x04 a) (element 0x04 b) contents x y p.info q.info in
    (element-same 0x04 a b same.1, same.2)

pub refused-private : (label : Label) (contents key : List ℕ) (error : PemError) → IsPrivateRefusal contents error
    → IsPrivateOf label contents key → ⊥
refused-private label contents key InvalidDer h p = h ed25519 (element 0x04 p.seed) p.public p.written.info
refused-private label contents key (OtherAlgorithm other) h p =
    let same = (private-unique h.0 ed25519 h.1 _ contents h.2 p.public h.3 p.written.info).0 in
    other-edwards other (subst (IsAlgorithm other) same h.4) h.5
refused-private label contents key OtherHalf h p =
    let same = seed-unique h.0 p.seed contents (Some h.1) p.public h.2 p.written in
    let half : h.1 ≡ ed25519_public p.seed = subst (λ (o : Option (List ℕ)). IsHalf o (ed25519_public p.seed)) (sym same.1) p.half in
    h.3 (half ∙ ap (λ (s : List ℕ). ed25519_public s) (sym same.0))
refused-private label contents key InvalidKey h p =
    h.3 p.seed p.written.size (private-unique ed25519 ed25519 h.0 _ contents h.1 p.public h.2 p.written.info).1
refused-private label contents key error h p = absurd h

pub refused-public : (label : Label) (contents key : List ℕ) (error : PemError) → IsPublicRefusal contents error
    → IsPublicOf label contents key → ⊥
refused-public label contents key InvalidDer h p = h ed25519 key p.written
refused-public label contents key (OtherAlgorithm other) h p =
    let same = (public-unique h.0 ed25519 h.1 key contents h.2 p.written).0 in
    other-edwards other (subst (IsAlgorithm other) same h.3) h.4
refused-public label contents key InvalidKey h p =
    h.2 (ap length (public-unique ed25519 ed25519 h.0 key contents h.1 p.written).1 ∙ p.size)
refused-public label contents key error h p = absurd h

-- contents are one private key
pub private-one : (label : Label) (contents seed made key : List ℕ) (public : Option (List ℕ)) → IsSeed seed public contents
    → made ≡ seed ++ ed25519_public seed → IsPrivateOf label contents key → made ≡ key
private-one label contents seed made key public written halves p =
    let same = (seed-unique seed p.seed contents public p.public written p.written).0 in
    halves ∙ ap (λ (s : List ℕ). s ++ ed25519_public s) same ∙ sym p.halves

pub public-one : (label : Label) (contents made key : List ℕ) → contents ≡ public_key_info ed25519 made
    → IsPublicOf label contents key → made ≡ key
public-one label contents made key written p = (public-unique ed25519 ed25519 made key contents written p.written).1

-- the halves of a private key
pub front-half : (seed key : List ℕ) → length seed ≡ 32 → key ≡ seed ++ ed25519_public seed → take 32 key ≡ seed
front-half seed key size halves = ap (take 32) halves ∙ take_at seed (ed25519_public seed) 32 size

pub back-half : (seed key : List ℕ) → length seed ≡ 32 → key ≡ seed ++ ed25519_public seed → drop 32 key ≡ ed25519_public seed
back-half seed key size halves = ap (drop 32) halves ∙ drop_at seed (ed25519_public seed) 32 size

-- a public key that is not that of the seed
pub other-half : (seed own contents : List ℕ) (public : Option (List ℕ)) → IsSeed seed public contents → own ≡ ed25519_public seed
    → ¬ IsHalf public own → IsPrivateRefusal contents OtherHalf
other-half seed own contents None known is other = absurd (other tt)
other-half seed own contents (Some public) known is other = (seed, public, known, λ e. other (e ∙ sym is))
