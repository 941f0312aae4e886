-- The octets of algorithms and curves.
use Rattle.std.proofs.Common.{◌≡◌, ℕ, List, [], ◌∷◌, ◌++◌, get_or, refl, sym, ap, ◌∙◌}
use Rattle.paseto_der.specs.Element.{der_length, element}
use Rattle.paseto_pem.specs.declared.found.Algorithm.{Algorithm}
use Rattle.paseto_pem.specs.declared.found.Algorithm.TheVariants.{Ed25519, EllipticCurve, Rsa, Unknown}
use Rattle.paseto_pem.specs.Algorithm.{IsAlgorithm, ec_public_key, ed25519, rsa, secp256k1, secp256r1, secp384r1, secp521r1}

pub ed25519-octets : 0x06 ∷ 0x03 ∷ 0x2b ∷ 0x65 ∷ 0x70 ∷ [] ≡ ed25519
unfolding ed25519 element der_length
ed25519-octets = refl

pub ec-octets : 0x06 ∷ 0x07 ∷ 0x2a ∷ 0x86 ∷ 0x48 ∷ 0xce ∷ 0x3d ∷ 0x02 ∷ 0x01 ∷ [] ≡ ec_public_key
unfolding ec_public_key element der_length
ec-octets = refl

pub rsa-octets : 0x06 ∷ 0x09 ∷ 0x2a ∷ 0x86 ∷ 0x48 ∷ 0x86 ∷ 0xf7 ∷ 0x0d ∷ 0x01 ∷ 0x01 ∷ 0x01 ∷ 0x05 ∷ 0x00 ∷ [] ≡ rsa
unfolding rsa element der_length
rsa-octets = refl

pub p384-octets : 0x06 ∷ 0x05 ∷ 0x2b ∷ 0x81 ∷ 0x04 ∷ 0x00 ∷ 0x22 ∷ [] ≡ secp384r1
unfolding secp384r1 element der_length
p384-octets = refl

pub p256-octets : 0x06 ∷ 0x08 ∷ 0x2a ∷ 0x86 ∷ 0x48 ∷ 0xce ∷ 0x3d ∷ 0x03 ∷ 0x01 ∷ 0x07 ∷ [] ≡ secp256r1
unfolding secp256r1 element der_length
p256-octets = refl

pub p521-octets : 0x06 ∷ 0x05 ∷ 0x2b ∷ 0x81 ∷ 0x04 ∷ 0x00 ∷ 0x23 ∷ [] ≡ secp521r1
unfolding secp521r1 element der_length
p521-octets = refl

pub k1-octets : 0x06 ∷ 0x05 ∷ 0x2b ∷ 0x81 ∷ 0x04 ∷ 0x00 ∷ 0x0a ∷ [] ≡ secp256k1
unfolding secp256k1 element der_length
k1-octets = refl

-- ---- octets are one algorithm

edwards-no-curve : (curve : List ℕ) → ed25519 ≡ ec_public_key ++ curve → ⊥
edwards-no-curve curve e =
    let second : 3 ≡ 7 = ap (λ (l : List ℕ). get_or l 1 0) (ed25519-octets ∙ e ∙ ap (λ (l : List ℕ). l ++ curve) (sym ec-octets)) in
    cc second

rsa-no-curve : (curve : List ℕ) → rsa ≡ ec_public_key ++ curve → ⊥
rsa-no-curve curve e =
    let second : 9 ≡ 7 = ap (λ (l : List ℕ). get_or l 1 0) (rsa-octets ∙ e ∙ ap (λ (l : List ℕ). l ++ curve) (sym ec-octets)) in
    cc second

edwards-no-rsa : ed25519 ≡ rsa → ⊥
edwards-no-rsa e =
    let second : 3 ≡ 9 = ap (λ (l : List ℕ). get_or l 1 0) (ed25519-octets ∙ e ∙ sym rsa-octets) in
    cc second

pub algorithm-one : (a b : Algorithm) (octets : List ℕ) → IsAlgorithm a octets → IsAlgorithm b octets → a ≡ b
algorithm-one Ed25519 Ed25519 octets p q = refl
algorithm-one Ed25519 EllipticCurve octets p q = absurd (edwards-no-curve q.0 (sym p ∙ q.1))
algorithm-one Ed25519 Rsa octets p q = absurd (edwards-no-rsa (sym p ∙ q))
algorithm-one Ed25519 Unknown octets p q = absurd (q.0 p)
algorithm-one EllipticCurve Ed25519 octets p q = absurd (edwards-no-curve p.0 (sym q ∙ p.1))
algorithm-one EllipticCurve EllipticCurve octets p q = refl
algorithm-one EllipticCurve Rsa octets p q = absurd (rsa-no-curve p.0 (sym q ∙ p.1))
algorithm-one EllipticCurve Unknown octets p q = absurd (q.1 p)
algorithm-one Rsa Ed25519 octets p q = absurd (edwards-no-rsa (sym q ∙ p))
algorithm-one Rsa EllipticCurve octets p q = absurd (rsa-no-curve q.0 (sym p ∙ q.1))
algorithm-one Rsa Rsa octets p q = refl
algorithm-one Rsa Unknown octets p q = absurd (q.2 p)
algorithm-one Unknown Ed25519 octets p q = absurd (p.0 q)
algorithm-one Unknown EllipticCurve octets p q = absurd (p.1 q)
algorithm-one Unknown Rsa octets p q = absurd (p.2 q)
algorithm-one Unknown Unknown octets p q = refl
