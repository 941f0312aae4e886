-- A signature of Ed25519 is determined by its first half: what is encoded as R is one point, S times the base point is what
-- is left of it, and S is below the order of the base point.
use Rattle.std.proofs.Common.{◌≡◌, ℕ, zero, suc, ◌+◌, ◌*◌, ◌^◌, ◌<◌, List, ◌++◌, length, take, drop, slice_index, refl, sym, ap, ap₂, subst, ◌∙◌, arith, pow-suc, length-drop}
use Rattle.std.proofs.Math.Nat.{pow-zero}
use Rattle.std.specs.Prelude.{Option, None, Some}
use Rattle.std.proofs.lemmas.Grind.{same_number_lists}
use Rattle.std.proofs.lemmas.List.{length-take-le, take-append-drop}
use Rattle.rusty_paseto_primitives.specs.Bytes.{IsBytes}
use Rattle.rusty_paseto_primitives.proofs.ByteLists.{IsBytes-drop, IsBytes-take}
use Rattle.rusty_paseto_core.specs.Public.{PublicDesign, message, v2_public, v4_public}
use Rattle.paseto_edwards_laws.specs.Edwards25519.{base, order}
use Rattle.paseto_edwards_laws.specs.Group.{Affine}
use Rattle.paseto_edwards_laws.proofs.CurveLaws.{base-point}
use Rattle.paseto_edwards25519.specs.Curve.{IsPoint, multiple, opposite, sum}
use Rattle.paseto_edwards25519.specs.Encoding.{decoded}
use Rattle.paseto_edwards25519.specs.Scalar.{number32, word}
use Rattle.paseto_edwards25519.proofs.CurveLaws.{multiple-is_point, opposite-is_point, sum-is_point}
use Rattle.paseto_edwards25519.proofs.DecodingLaws.{decoded-encoded, decoded-is_point, some-same}
use Rattle.paseto_edwards25519.proofs.OrderLaws.{cancel, one-multiple}
use Rattle.paseto_ed25519.specs.Ed25519.{Ed25519Verifies, IsSum, challenge}
use Rattle.paseto_ed25519.specs.Uniqueness.{OnePayload, OneS}

-- ---- S

point : (n : ℕ) → IsPoint (multiple n base)
point n = multiple-is_point n base base-point

one_sum : (o : Option Affine) (public : List ℕ) (s t k : ℕ) (r : List ℕ) → decoded public ≡ o → s < order → t < order
    → IsSum o s k r → IsSum o t k r → s ≡ t
one_sum None public s t k r is hs ht one other = absurd one
one_sum (Some a) public s t k r is hs ht one other =
    let ha = decoded-is_point public a is in
    let x = multiple k (opposite a) in
    let hx : IsPoint x = multiple-is_point k (opposite a) (opposite-is_point a ha) in
    let first = sum (multiple s base) x in
    let second = sum (multiple t base) x in
    let h_first : IsPoint first = sum-is_point (multiple s base) x (point s) hx in
    let h_second : IsPoint second = sum-is_point (multiple t base) x (point t) hx in
    let same : first ≡ second =
    some-same first second (sym (decoded-encoded first h_first) ∙ ap decoded (one.2 ∙ sym other.2) ∙ decoded-encoded second h_second) in
    one-multiple s t hs ht (cancel (multiple s base) (multiple t base) x (point s) (point t) hx same)

-- ---- numbers of bytes

horner : ℕ → (ℕ → ℕ) → ℕ
horner zero f = 0
horner (suc n) f = f 0 + 256 * horner n (λ i. f (suc i))

digits-alike : (n : ℕ) (f g : ℕ → ℕ) → ((i : ℕ) → f i < 256) → ((i : ℕ) → g i < 256) → horner n f ≡ horner n g → (i : ℕ) → i < n → f i ≡ g i
unfolding horner
digits-alike zero f g hf hg e i h = absurd (omega arith)
digits-alike (suc n) f g hf hg e zero h =
    let a = hf 0 in
    let b = hg 0 in
    omega arith
digits-alike (suc n) f g hf hg e (suc i) h =
    let a = hf 0 in
    let b = hg 0 in
    let rest : horner n (λ i. f (suc i)) ≡ horner n (λ i. g (suc i)) = omega arith in
    digits-alike n (λ i. f (suc i)) (λ i. g (suc i)) (λ i. hf (suc i)) (λ i. hg (suc i)) rest i (omega arith)

horner-low : (n : ℕ) (f : ℕ → ℕ) → ((i : ℕ) → f i < 256) → horner n f < 256 ^ n
unfolding horner
horner-low zero f hf = omega (arith, pow-zero 256)
horner-low (suc n) f hf = omega (arith, hf 0, horner-low n (λ i. f (suc i)) (λ i. hf (suc i)), pow-suc 256 n)

word-is : (bytes : List ℕ) → word bytes ≡ horner 16 (slice_index bytes)
unfolding word horner
word-is bytes = omega arith

pub word-low : (bytes : List ℕ) → IsBytes bytes → word bytes < 2 ^ 128
word-low bytes all = rw word-is (horner-low 16 (slice_index bytes) all)

words-alike : (a b : List ℕ) → length a ≡ 16 → length b ≡ 16 → IsBytes a → IsBytes b → word a ≡ word b → a ≡ b
words-alike a b size_a size_b ha hb e =
    same_number_lists a b (size_a ∙ sym size_b)
    (λ k h. digits-alike 16 (slice_index a) (slice_index b) ha hb (sym (word-is a) ∙ e ∙ word-is b) k (omega arith))

numbers-alike : (a b : List ℕ) → length a ≡ 32 → length b ≡ 32 → IsBytes a → IsBytes b → number32 a ≡ number32 b → a ≡ b
numbers-alike a b size_a size_b ha hb e =
    let low_a = word-low (take 16 a) (IsBytes-take 16 a ha) in
    let low_b = word-low (take 16 b) (IsBytes-take 16 b hb) in
    let fronts : word (take 16 a) ≡ word (take 16 b) = omega arith in
    let backs : word (drop 16 a) ≡ word (drop 16 b) = omega arith in
    let front : take 16 a ≡ take 16 b =
    words-alike (take 16 a) (take 16 b) (length-take-le 16 a (omega arith)) (length-take-le 16 b (omega arith))
    (IsBytes-take 16 a ha) (IsBytes-take 16 b hb) fronts in
    let back : drop 16 a ≡ drop 16 b =
    words-alike (drop 16 a) (drop 16 b) (omega (arith, length-drop 16 a)) (omega (arith, length-drop 16 b))
    (IsBytes-drop 16 a ha) (IsBytes-drop 16 b hb) backs in
    sym (take-append-drop 16 a) ∙ ap₂ (λ (x y : List ℕ). x ++ y) front back ∙ take-append-drop 16 b

-- ---- signatures

pub one_s : OneS
unfolding Ed25519Verifies
one_s public message first second (size_first, bytes_first) (size_second, bytes_second) same one other =
    let r = take 32 first in
    let s : ℕ = number32 (drop 32 first) in
    let t : ℕ = number32 (drop 32 second) in
    let k : ℕ = challenge r public message in
    let other_sum : IsSum (decoded public) t k r =
    subst (λ (q : List ℕ). IsSum (decoded public) t (challenge q public message) q) (sym same) other.2 in
    let equal : s ≡ t = one_sum (decoded public) public s t k r refl one.1 other.1 one.2 other_sum in
    let back : drop 32 first ≡ drop 32 second =
    numbers-alike (drop 32 first) (drop 32 second) (omega (arith, length-drop 32 first, size_first))
    (omega (arith, length-drop 32 second, size_second)) (IsBytes-drop 32 first bytes_first) (IsBytes-drop 32 second bytes_second) equal in
    sym (take-append-drop 32 first) ∙ ap₂ (λ (x y : List ℕ). x ++ y) same back ∙ take-append-drop 32 second

one_payload : (design : PublicDesign) → design.signature_length ≡ 64 → OnePayload design
one_payload design size binding first second text one other same =
    let equal = one_s binding.key (message design binding text) one.signature other.signature
    (one.size ∙ size, one.bytes) (other.size ∙ size, other.bytes) same one.is_valid other.is_valid in
    one.is_signed ∙ ap (λ (s : List ℕ). text ++ s) equal ∙ sym other.is_signed

pub v2_one_payload : OnePayload v2_public
v2_one_payload = one_payload v2_public refl

pub v4_one_payload : OnePayload v4_public
v4_one_payload = one_payload v4_public refl
