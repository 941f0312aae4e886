-- A secret can be shared with the public key of an Ed25519 key pair: no multiple of it by a clamped scalar is of small order.
use Rattle.std.proofs.Common.{◌≡◌, ◌≢◌, ℕ, ◌*◌, ◌%◌, ◌^◌, ◌<◌, List, drop, take, replicate, refl, sym, ap, subst, ◌∙◌, inl, inr, arith, lit<}
use Rattle.std.specs.Prelude.{Some}
use Rattle.paseto_primes.proofs.DivisorLaws.{euclid}
use Rattle.paseto_primes.proofs.OrderOfEdwards25519.{is-prime}
use Rattle.paseto_edwards_laws.specs.Edwards25519.{base, order, prime}
use Rattle.paseto_edwards_laws.specs.Group.{Affine}
use Rattle.paseto_edwards_laws.proofs.CurveLaws.{base-point}
use Rattle.paseto_edwards25519.specs.Curve.{HasSmallOrder, IsPoint, multiple}
use Rattle.paseto_edwards25519.specs.Encoding.{decoded}
use Rattle.paseto_edwards25519.specs.Scalar.{bytes32, number32, word_bytes}
use Rattle.paseto_edwards25519.proofs.BytesLaws.{number-of_bytes}
use Rattle.paseto_edwards25519.proofs.CurveLaws.{multiple-is_point, multiple-of_multiple}
use Rattle.paseto_edwards25519.proofs.DecodingLaws.{decoded-encoded, none-some}
use Rattle.paseto_edwards25519.proofs.OrderLaws.{small-divides}
use Rattle.paseto_edwards25519.proofs.RootLaws.{times-low}
use Rattle.paseto_ed25519.specs.Ed25519.{IsOwn, secret_scalar}
use Rattle.paseto_ed25519.proofs.SecretLaws.{clamped-unit, secret-unit}
use Rattle.paseto_x25519.specs.Agreement.{decoded_scalar, x25519}
use Rattle.paseto_x25519.specs.Conversion.{IsOfSmallOrder, IsSmall, montgomery}
use Rattle.paseto_x25519.specs.Laws.{IsSecretKey, OwnKeysAgree, u_of}
use Rattle.paseto_x25519.proofs.AgreementLaws.{agreement_is_multiple, same-scalar}
use Rattle.paseto_x25519.proofs.LadderMultiples.{u-small}

-- the order does not divide the scalar of a secret key
scalar-unit : (k : List ℕ) → IsSecretKey k → decoded_scalar k % order ≢ 0
scalar-unit k h none = clamped-unit k h.size h.bytes (ap (λ (n : ℕ). n % order) (sym (same-scalar k)) ∙ none)

zeros : replicate 32 0 ≡ bytes32 0
unfolding bytes32 word_bytes
zeros = refl

some-shared : (ephemeral public : List ℕ) (s : ℕ) → IsSecretKey ephemeral → decoded public ≡ Some (multiple s base) → s % order ≢ 0
    → x25519 ephemeral (montgomery public) ≢ replicate 32 0
some-shared ephemeral public s h is unit none =
    let k : ℕ = decoded_scalar ephemeral in
    let q : Affine = multiple s base in
    let p : Affine = multiple k q in
    let hp : IsPoint p = multiple-is_point k q (multiple-is_point s base base-point) in
    let low : u_of p < prime = times-low _ _ in
    let big : u_of p < 2 ^ 256 = omega (arith, low) in
    let same : bytes32 (u_of p) ≡ bytes32 0 = sym (agreement_is_multiple ephemeral public q h is) ∙ none ∙ zeros in
    let zero : u_of p ≡ 0 = sym (number-of_bytes (u_of p) big) ∙ ap number32 same ∙ number-of_bytes 0 (lit< tt) in
    let small : HasSmallOrder (multiple (k * s) base) = subst HasSmallOrder (multiple-of_multiple k s base base-point) (u-small p hp zero) in
    elim (euclid order k s is-prime (small-divides (k * s) small)) [
      | inl e ↦ scalar-unit ephemeral h e
      | inr e ↦ unit e
    ]

own-decoded : (private : List ℕ) → IsOwn private → decoded (drop 32 private) ≡ Some (multiple (secret_scalar (take 32 private)) base)
own-decoded private own =
    let s : ℕ = secret_scalar (take 32 private) in
    ap decoded (sym own) ∙ decoded-encoded (multiple s base) (multiple-is_point s base base-point)

not-small : (private : List ℕ) → IsOwn private → ¬ IsOfSmallOrder (drop 32 private)
not-small private own small =
    let seed = take 32 private in
    secret-unit seed (small-divides (secret_scalar seed) (subst IsSmall (own-decoded private own) small))

pub own_keys_agree : OwnKeysAgree
own_keys_agree private ephemeral own h = (
  λ none. none-some _ (sym none ∙ own-decoded private own),
  not-small private own,
  some-shared ephemeral (drop 32 private) (secret_scalar (take 32 private)) h (own-decoded private own) (secret-unit (take 32 private)),
)
