-- Key agreement by X25519, as multiples of points.
use Rattle.std.proofs.Common.{◌≡◌, ℕ, zero, suc, ◌+◌, ◌-◌, ◌*◌, ◌/◌, ◌%◌, ◌^◌, ◌<◌, List, [], ◌∷◌, length, slice_index, slice_set, take, drop, refl, sym, ap, ◌∙◌, arith, lit<, mod-eq_of_lt, mod-lt, get_or-drop, length-set, inl, inr}
use Rattle.std.specs.Int.{to_be_bytes, w64}
use Rattle.std.specs.Prelude.{Option, None, Some}
use Rattle.std.proofs.lemmas.Bool.{cases_lt}
use Rattle.std.proofs.lemmas.List.{get_or-set_same, length-take-le}
use Rattle.sha2.specs.Sha512.{digest_bytes, sha512}
use Rattle.rusty_paseto_primitives.specs.Bytes.{IsBytes}
use Rattle.rusty_paseto_primitives.proofs.ByteLists.{IsBytes-append, IsBytes-drop, IsBytes-nil, IsBytes-take, IsBytes_cons}
use Rattle.rusty_paseto_primitives.proofs.HmacLengths.{IsBytes-bytes_high_first}
use Rattle.paseto_edwards_laws.specs.Edwards25519.{base, d, prime}
use Rattle.paseto_edwards_laws.specs.Group.{Affine}
use Rattle.paseto_edwards_laws.proofs.CurveLaws.{base-point, curve}
use Rattle.paseto_edwards_laws.proofs.MultipleLaws.{multiple-point, multiple-times}
use Rattle.paseto_edwards25519.specs.Curve.{IsPoint, multiple}
use Rattle.paseto_edwards25519.specs.Encoding.{at, decoded, encoded, point_of, root_at}
use Rattle.paseto_edwards25519.specs.Extended.{inverse}
use Rattle.paseto_edwards25519.specs.Field.{minus, plus, power, times}
use Rattle.paseto_edwards25519.specs.Scalar.{bytes32, number32, word}
use Rattle.paseto_edwards25519.proofs.BytesLaws.{number-of_bytes}
use Rattle.paseto_edwards25519.proofs.EncodingLaws.{decoded_at, decoded_none, point_negated, point_none, point_of_none, point_same}
use Rattle.paseto_ed25519.specs.Ed25519.{ed25519_public, secret_scalar}
use Rattle.paseto_ed25519.specs.Ed25519 as signing
use Rattle.paseto_x25519.specs.Agreement.{base_point, clamped, decoded_scalar, decoded_u, x25519}
use Rattle.paseto_x25519.specs.Conversion.{montgomery, y_of}
use Rattle.paseto_x25519.specs.Ladder.{ladder}
use Rattle.paseto_x25519.specs.Laws.{AgreementIsMultiple, IsSecretKey, KeysMatch, SecretsAreCommon, u_of}
use Rattle.paseto_edwards25519.proofs.DecodingLaws.{decoded-is_point, none-some, some-same}
use Rattle.paseto_ed25519.proofs.UniquenessLaws.{word-low}
use Rattle.paseto_x25519.proofs.LadderMultiples.{Stands, inverse-is, ladder_is_multiple, quotient-is}
use Rattle.paseto_edwards25519.proofs.RootLaws.{times-low}
use Rattle.std.proofs.lemmas.Bool.{cases_eq}

-- ---- scalars

IsBytes-set : (xs : List ℕ) (i b : ℕ) → b < 256 → IsBytes xs → IsBytes (slice_set xs i b)
IsBytes-set [] i b low all = IsBytes-nil
IsBytes-set (x ∷ xs) zero b low all = IsBytes_cons b xs low (λ i. all (suc i))
IsBytes-set (x ∷ xs) (suc i) b low all = IsBytes_cons x (slice_set xs i b) (all 0) (IsBytes-set xs i b low (λ i. all (suc i)))

pub IsBytes-clamped : (k : List ℕ) → IsBytes k → IsBytes (clamped k)
unfolding clamped
IsBytes-clamped k all =
    let cleared : List ℕ = slice_set k 0 (slice_index k 0 / 8 * 8) in
    IsBytes-set cleared 31 (slice_index cleared 31 % 64 + 64) (top-byte (slice_index cleared 31))
    (IsBytes-set k 0 (slice_index k 0 / 8 * 8) (first-byte (slice_index k 0) (all 0)) all)
  where
    top-byte : (b : ℕ) → b % 64 + 64 < 256
    top-byte b = omega arith

    first-byte : (b : ℕ) → b < 256 → b / 8 * 8 < 256
    first-byte b h = omega arith

last-clamped : (k : List ℕ) → length k ≡ 32 → slice_index (clamped k) 31 < 128
unfolding clamped
last-clamped k size =
    let cleared : List ℕ = slice_set k 0 (slice_index k 0 / 8 * 8) in
    let b : ℕ = slice_index cleared 31 in
    let long : length cleared ≡ 32 = length-set k 0 (slice_index k 0 / 8 * 8) ∙ size in
    let e : slice_index (slice_set cleared 31 (b % 64 + 64)) 31 ≡ b % 64 + 64 =
    get_or-set_same cleared 31 (b % 64 + 64) 0 (omega (arith, long)) in
    omega (arith, e)

word-top : (xs : List ℕ) → IsBytes xs → word xs < (slice_index xs 15 + 1) * 2 ^ 120
unfolding word
word-top xs low =
    omega (arith, low 0, low 1, low 2, low 3, low 4, low 5, low 6, low 7, low 8, low 9, low 10, low 11, low 12, low 13, low 14)

scalar-low : (k : List ℕ) → IsSecretKey k → decoded_scalar k < 2 ^ 255
scalar-low k h =
    let c = clamped k in
    let all = IsBytes-clamped k h.bytes in
    let lower = word-low (take 16 c) (IsBytes-take 16 c all) in
    let upper = word-top (drop 16 c) (IsBytes-drop 16 c all) in
    let last : slice_index (drop 16 c) 15 ≡ slice_index c 31 = get_or-drop 16 c 15 0 in
    let top = last-clamped k h.size in
    whole (word (take 16 c)) (word (drop 16 c)) (slice_index c 31) lower (ap-top upper last) top
  where
    whole : (low high b : ℕ) → low < 2 ^ 128 → high < (b + 1) * 2 ^ 120 → b < 128 → low + 2 ^ 128 * high < 2 ^ 255
    whole low high b f g h = omega arith

    ap-top : {n a b : ℕ} → n < (a + 1) * 2 ^ 120 → a ≡ b → n < (b + 1) * 2 ^ 120
    ap-top {n} {a} {b} h e = omega (arith, h, e)

-- ---- coordinates

u-low : (q : Affine) → u_of q < prime
u-low q = times-low _ _

decoded-bytes : (u : ℕ) → u < prime → decoded_u (bytes32 u) ≡ u
decoded-bytes u low =
    let big : u < 2 ^ 256 = omega (arith, low) in
    let small : u < 2 ^ 255 = omega (arith, low) in
    ap (λ (n : ℕ). n % 2 ^ 255 % prime) (number-of_bytes u big) ∙ ap (λ (n : ℕ). n % prime) (mod-eq_of_lt small) ∙ mod-eq_of_lt low

base-decoded : decoded_u base_point ≡ 9
unfolding word
base-decoded = refl

nine : times 9 1 ≡ 9
unfolding times
nine = refl

one-inverse : (i : ℕ) → i < prime → times 1 i ≡ 1 → i ≡ 1
unfolding times
one-inverse i low e = omega (arith, low, e)

inverse-below : (z : ℕ) → inverse z < prime
unfolding power
inverse-below z = mod-lt (z ^ (prime - 2)) (lit< tt)

-- u of the base point is 9
base-stands : Stands 9 1 base
unfolding plus minus times
base-stands = record { x_low = lit< tt; z_low = lit< tt; some = λ e. absurd (omega (arith, e)); is = refl }

base-u : u_of base ≡ 9
base-u =
    let one_is = inverse-is 1 (lit< tt) (λ e. absurd (omega (arith, e))) in
    sym (quotient-is 9 1 base base-point.y_low base-stands) ∙ ap (times 9) (one-inverse (inverse 1) (inverse-below 1) one_is) ∙ nine

-- ---- agreement

-- X25519 with u of a point
agreed : (k : List ℕ) (q : Affine) → IsSecretKey k → IsPoint q → x25519 k (bytes32 (u_of q)) ≡ bytes32 (u_of (multiple (decoded_scalar k) q))
agreed k q h hq =
    ap (λ (u : ℕ). bytes32 (ladder (decoded_scalar k) u)) (decoded-bytes (u_of q) (u-low q))
    ∙ ap bytes32 (ladder_is_multiple (decoded_scalar k) q hq (scalar-low k h))

public-is : (k : List ℕ) → IsSecretKey k → x25519 k base_point ≡ bytes32 (u_of (multiple (decoded_scalar k) base))
public-is k h =
    ap (λ (u : ℕ). bytes32 (ladder (decoded_scalar k) u)) (base-decoded ∙ sym base-u)
    ∙ ap bytes32 (ladder_is_multiple (decoded_scalar k) base base-point (scalar-low k h))

pub secrets_are_common : SecretsAreCommon
secrets_are_common a b ha hb =
    let s : ℕ = decoded_scalar a in
    let t : ℕ = decoded_scalar b in
    let turned : s * t ≡ t * s = omega arith in
    ap (x25519 a) (public-is b hb) ∙ agreed a (multiple t base) ha (multiple-point prime d curve t base base-point)
    ∙ ap (λ (q : Affine). bytes32 (u_of q))
    (sym (multiple-times prime d curve s t base base-point) ∙ ap (λ (n : ℕ). multiple n base) turned ∙ multiple-times prime d curve t s base base-point)
    ∙ sym (ap (x25519 b) (public-is a ha) ∙ agreed b (multiple s base) hb (multiple-point prime d curve s base base-point))

-- ---- keys of Ed25519

IsBytes-digest : (h : List ℕ) (n : ℕ) → IsBytes (digest_bytes h n)
unfolding digest_bytes
IsBytes-digest h zero = IsBytes-nil
IsBytes-digest h (suc n) =
    IsBytes-append (digest_bytes h n) (to_be_bytes w64 (slice_index h n)) (IsBytes-digest h n) (IsBytes-bytes_high_first 8 (slice_index h n))

IsBytes-sha512 : (m : List ℕ) → IsBytes (sha512 m)
unfolding sha512
IsBytes-sha512 m = IsBytes-digest _ 8

length-sha512 : (m : List ℕ) → length (sha512 m) ≡ 64
unfolding sha512 digest_bytes
length-sha512 m = refl

pub half-bytes : (seed : List ℕ) → IsSecretKey (take 32 (sha512 seed))
half-bytes seed = record {
  size = length-take-le 32 (sha512 seed) (omega (arith, length-sha512 seed));
  bytes = IsBytes-take 32 (sha512 seed) (IsBytes-sha512 seed);
}

pub same-scalar : (half : List ℕ) → decoded_scalar half ≡ number32 (signing.clamped half)
unfolding clamped signing.clamped
same-scalar half = refl

encoded-y : (q : Affine) → IsPoint q → y_of (encoded q) ≡ q.y
unfolding encoded
encoded-y q h =
    let n : ℕ = q.y + 2 ^ 255 * (q.x % 2) in
    let big : n < 2 ^ 256 = omega (arith, h.y_low) in
    let low : n % 2 ^ 255 ≡ q.y = omega (arith, h.y_low) in
    ap (λ (k : ℕ). k % 2 ^ 255 % prime) (number-of_bytes n big) ∙ ap (λ (k : ℕ). k % prime) low ∙ mod-eq_of_lt h.y_low

pub keys_match : KeysMatch
unfolding montgomery
keys_match seed =
    let half = take 32 (sha512 seed) in
    let s : ℕ = secret_scalar seed in
    let q = multiple s base in
    let hq = multiple-point prime d curve s base base-point in
    public-is half (half-bytes seed) ∙ ap (λ (n : ℕ). bytes32 (u_of (multiple n base))) (same-scalar half)
    ∙ ap (λ (y : ℕ). bytes32 (times (plus 1 y) (inverse (minus 1 y)))) (sym (encoded-y q hq))

-- the y of what is decoded
point-y : (y sign : ℕ) (q : Affine) (o : Option ℕ) → point_of y sign o ≡ Some q → q.y ≡ y
point-y y sign q None e = absurd (none-some q (point_of_none y sign ∙ e))
point-y y sign q (Some x) e = elim (cases_eq (x % 2) sign) [
  | inl same ↦ ap (λ (p : Affine). p.y) (sym (some-same (at x y) q (point_same y sign x same ∙ e)))
  | inr apart ↦ elim (cases_eq x 0) [
    | inl none ↦ absurd (none-some q (point_none y sign x apart none ∙ e))
    | inr some ↦ ap (λ (p : Affine). p.y) (sym (some-same (at (minus 0 x) y) q (point_negated y sign x apart some ∙ e)))
  ]
]

decoded-y : (public : List ℕ) (q : Affine) → decoded public ≡ Some q → y_of public ≡ q.y
decoded-y public q e =
    let y : ℕ = number32 public % 2 ^ 255 in
    elim (cases_lt y prime) [
      | inl low ↦ mod-eq_of_lt low ∙ sym (point-y y (number32 public / 2 ^ 255) q (root_at y) (decoded_at public y _ refl refl low ∙ e))
      | inr high ↦ absurd (none-some q (decoded_none public high ∙ e))
    ]

pub agreement_is_multiple : AgreementIsMultiple
unfolding montgomery
agreement_is_multiple secret public q h is =
    ap (x25519 secret) (ap (λ (y : ℕ). bytes32 (times (plus 1 y) (inverse (minus 1 y)))) (decoded-y public q is))
    ∙ agreed secret q h (decoded-is_point public q is)
