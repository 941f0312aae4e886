-- What is signed verifies, as octets.
use Rattle.std.proofs.Common.{◌≡◌, ◌≢◌, ℕ, suc, ◌^◌, ◌<◌, ◌⊎◌, inl, inr, List, [], ◌∷◌, ◌++◌, length, take, drop, refl, sym, ◌∙◌, ap, subst, arith, mod-eq_of_lt}
use Rattle.std.specs.Prelude.{Option, None, Some}
use Rattle.std.proofs.lemmas.Bool.{cases_lt}
use Rattle.paseto_montgomery.specs.Octets.{i2osp, os2ip}
use Rattle.paseto_montgomery.proofs.OctetsLaws.{length-i2osp, os2ip-i2osp}
use Rattle.paseto_weierstrass_laws.specs.Curve.{order}
use Rattle.paseto_weierstrass_laws.specs.Multiples.{multiple_of}
use Rattle.paseto_weierstrass_laws.specs.Point.{Point, base}
use Rattle.paseto_weierstrass_laws.proofs.FieldLaws.{zero_or_not}
use Rattle.paseto_p384.specs.Ecdsa.{attempt, first, halves, second}
use Rattle.paseto_p384.specs.Encoding.{encoded}
use Rattle.paseto_p384.specs.Nonce.{drawn, retried}
use Rattle.paseto_p384.specs.P384.{IsPrivate, P384Verifies, either, first_candidate, hash_number, p384_public, p384_sign, signed_by}
use Rattle.paseto_p384.specs.declared.nonce.NonceGenerator.{NonceGenerator}
use Rattle.paseto_p384.proofs.DecodingLaws.{decoded-public}
use Rattle.paseto_p384.proofs.EcdsaLaws.{attempt-at, attempt-outside, nonzero-both, nonzero-first, nonzero-second}
use Rattle.paseto_p384.proofs.OptionLaws.{none-some, some-same}
use Rattle.paseto_p384.proofs.SigningLaws.{first-below, nonzero-of_positive, positive, second-below, signed-accepts}
use Rattle.paseto_p384.proofs.Validity.{private-parts, valid-some}

either-cases : (a b : Option (List ℕ)) (x : List ℕ) → either a b ≡ Some x → (a ≡ Some x) ⊎ (b ≡ Some x)
either-cases None b x e = inr e
either-cases (Some y) b x e = inl e

-- what a candidate signs
record IsMade (d e k : ℕ) (made : List ℕ) : Type 0 where
  above : 0 < k
  below : k < order
  r_some : first k ≢ 0
  s_some : second d e k (first k) ≢ 0
  is : halves (first k) (second d e k (first k)) ≡ made

made-by : (d e k : ℕ) (made : List ℕ) → attempt d e k ≡ Some made → IsMade d e k made
made-by d e k made h = elim (cases_lt 0 k) [
  | inr low ↦ absurd (none-some made (attempt-outside d e k (λ range. absurd (omega (arith, range.0, low))) ∙ h))
  | inl above ↦ elim (cases_lt k order) [
    | inr high ↦ absurd (none-some made (attempt-outside d e k (λ range. absurd (omega (arith, range.1, high))) ∙ h))
    | inl below ↦
        let r = first k in
        let s = second d e k r in
        let by = attempt-at d e k r s (above, below) refl refl ∙ h in
        elim (zero_or_not r) [
          | inl r0 ↦ absurd (none-some made (nonzero-first r s (first-below k) (λ range. nonzero-of_positive r range.0 r0) ∙ by))
          | inr rn ↦ elim (zero_or_not s) [
            | inl s0 ↦ absurd (none-some made (nonzero-second r s (second-below d e k r) (λ range. nonzero-of_positive s range.0 s0) ∙ by))
            | inr sn ↦ record {
              above = above;
              below = below;
              r_some = rn;
              s_some = sn;
              is = some-same (halves r s) made (nonzero-both r s (positive r rn) (positive s sn) ∙ by);
            }
          ]
        ]
  ]
]

taken : (xs ys : List ℕ) → take (length xs) (xs ++ ys) ≡ xs
taken [] ys = refl
taken (x ∷ xs) ys = ap (λ (l : List ℕ). x ∷ l) (taken xs ys)

dropped : (xs ys : List ℕ) → drop (length xs) (xs ++ ys) ≡ ys
dropped [] ys = refl
dropped (x ∷ xs) ys = dropped xs ys

first_half : (r s : ℕ) → r < order → r ≡ os2ip (take 48 (halves r s))
first_half r s h =
    let small : r < 256 ^ 48 = omega arith in
    sym (ap (λ n. os2ip (take n (i2osp r 48 ++ i2osp s 48))) (sym (length-i2osp r 48)) ∙ ap os2ip (taken (i2osp r 48) (i2osp s 48))
    ∙ os2ip-i2osp r 48 ∙ mod-eq_of_lt small)

second_half : (r s : ℕ) → s < order → s ≡ os2ip (drop 48 (halves r s))
second_half r s h =
    let small : s < 256 ^ 48 = omega arith in
    sym (ap (λ n. os2ip (drop n (i2osp r 48 ++ i2osp s 48))) (sym (length-i2osp r 48)) ∙ ap os2ip (dropped (i2osp r 48) (i2osp s 48))
    ∙ os2ip-i2osp s 48 ∙ mod-eq_of_lt small)

length-encoded : (p : Point) → length (encoded p) ≡ 49
unfolding encoded
length-encoded p = ap suc (length-i2osp _ 48)

candidate-verifies : (private message made : List ℕ) (g : NonceGenerator) → IsPrivate private → signed_by private message g ≡ Some made
    → P384Verifies (p384_public private) message made
unfolding p384_public signed_by
candidate-verifies private message made g h e =
    let parts = private-parts private h in
    let d = os2ip private in
    let number = hash_number message in
    let k = os2ip g.value in
    let m = made-by d number k made e in
    let r = first k in
    let s = second d number k r in
    let key = decoded-public d parts.1.1 (nonzero-of_positive d parts.1.0) in
    let accepted = signed-accepts key.point d number k key.multiple m.below (nonzero-of_positive k m.above) m.r_some m.s_some in
    let public = encoded (multiple_of d base) in
    subst (P384Verifies public message) m.is
    ((valid-some public message (halves r s) key.point number r s (length-encoded (multiple_of d base)) (sym key.is_decoded) refl
    (first_half r s (first-below k)) (second_half r s (second-below d number k r))).0 accepted)

pub signed-verifies : (private message made : List ℕ) → IsPrivate private → p384_sign private message ≡ Some made
    → P384Verifies (p384_public private) message made
unfolding p384_sign
signed-verifies private message made h e =
    let g = first_candidate private message in
    elim (either-cases (signed_by private message g) (signed_by private message (drawn (retried g))) made e) [
      | inl f ↦ candidate-verifies private message made g h f
      | inr f ↦ candidate-verifies private message made (drawn (retried g)) h f
    ]
