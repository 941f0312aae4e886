-- What is signed is valid, by the laws of the curve.
use Rattle.std.proofs.Common.{◌≡◌, ◌≢◌, ℕ, ◌+◌, ◌*◌, ◌%◌, ◌^◌, ◌<◌, List, ◌++◌, Some, length, take, drop, refl, sym, ◌∙◌, ap, subst, lit<, mod-eq_of_lt, mod-lt, lt_trans}
use Rattle.paseto_edwards_laws.specs.Group.{Affine}
use Rattle.std.specs.Prelude.{IfOk, Result}
use Rattle.std.proofs.lemmas.Result.{IfOk-weaker}
use Rattle.sha2.specs.Sha512.{sha512}
use Rattle.paseto_ed25519.specs.Ed25519.{Ed25519Verifies, IsSigned, IsSum, challenge, clamped, ed25519_public, ed25519_sign, nonce, nonce_of, partner, secret_scalar, signed}
use Rattle.paseto_edwards25519.specs.Curve.{HasSmallOrder, IsPoint, multiple, opposite, sum}
use Rattle.paseto_edwards_laws.specs.Edwards25519.{base, order}
use Rattle.paseto_edwards25519.specs.Encoding.{decoded, encoded}
use Rattle.paseto_edwards25519.specs.Scalar.{bytes32, number32, number64, reduced}
use Rattle.paseto_ed25519.proofs.SecretLaws.{secret-unit}

reduced-low : (digest : List ℕ) → reduced digest < order
unfolding reduced
reduced-low digest = mod-lt (number64 digest) (lit< tt)

module _
    (decodes : (a : Affine) → IsPoint a → decoded (encoded a) ≡ Some a)
    (lengths : (a : Affine) → length (encoded a) ≡ 32)
    (front : (a : Affine) (rest : List ℕ) → take 32 (encoded a ++ rest) ≡ encoded a)
    (back : (a : Affine) (rest : List ℕ) → drop 32 (encoded a ++ rest) ≡ rest)
    (points : (n : ℕ) → IsPoint (multiple n base))
    (numbers : (n : ℕ) → n < 2 ^ 256 → number32 (bytes32 n) ≡ n)
    (sums : (r k n : ℕ) → sum (multiple ((r + k * n) % order) base) (multiple k (opposite (multiple n base))) ≡ multiple r base)
    (smalls : (n : ℕ) → HasSmallOrder (multiple n base) → n % order ≡ 0)
  where
    -- the sum that a verifier makes
    checked : (r k n : ℕ) → r < order → r ≢ 0 → n % order ≢ 0
        → IsSum (decoded (encoded (multiple n base))) ((r + k * n) % order) k (encoded (multiple r base))
    checked r k n r_low r_some n_unit =
        let total : sum (multiple ((r + k * n) % order) base) (multiple k (opposite (multiple n base))) ≡ multiple r base = sums r k n in
        subst (λ o. IsSum o ((r + k * n) % order) k (encoded (multiple r base))) (sym (decodes (multiple n base) (points n))) (
          (λ small. n_unit (smalls n small)),
          (λ small. r_some (sym (mod-eq_of_lt r_low) ∙ smalls r (subst (λ a. HasSmallOrder a) total small))),
          ap (λ a. encoded a) total,
        )

    valid : (r n : ℕ) (public message : List ℕ) → encoded (multiple n base) ≡ public → r < order → r ≢ 0 → n % order ≢ 0
        → Ed25519Verifies public message (signed r n public message)
    unfolding Ed25519Verifies signed
    valid r n public message own r_low r_some n_unit =
        let commitment : List ℕ = encoded (multiple r base) in
        let k : ℕ = challenge commitment public message in
        let s : ℕ = (r + k * n) % order in
        let s_low : s < order = mod-lt (r + k * n) (lit< tt) in
        let first : take 32 (commitment ++ bytes32 s) ≡ commitment = front (multiple r base) (bytes32 s) in
        let second : number32 (drop 32 (commitment ++ bytes32 s)) ≡ s =
        ap (λ b. number32 b) (back (multiple r base) (bytes32 s)) ∙ numbers s (lt_trans s_low (lit< tt)) in
        rw (first, second) (
          ap (λ b. length b) (sym own) ∙ lengths (multiple n base),
          s_low,
          subst (λ b. IsSum (decoded b) s k commitment) own (checked r k n r_low r_some n_unit),
        )

    pub signed-verifies : (private message : List ℕ) → IsSigned private message
        → Ed25519Verifies (partner private) message (ed25519_sign private message)
    unfolding ed25519_sign
    signed-verifies private message h =
        let seed : List ℕ = take 32 private in
        valid (nonce seed message) (secret_scalar seed) (partner private) message h.0 (reduced-low _) h.1 (secret-unit seed)

-- the signature that was made of a private key's parts
pub signed-is : (private message seed public scalar prefix signature : List ℕ) → seed ≡ take 32 private → public ≡ drop 32 private
    → scalar ≡ clamped (take 32 (sha512 seed)) → prefix ≡ drop 32 (sha512 seed)
    → signature ≡ signed (nonce_of prefix message) (number32 scalar) public message → signature ≡ ed25519_sign private message
unfolding ed25519_sign
signed-is private message seed public scalar prefix signature front back scalar_is prefix_is made =
    made ∙ rw (scalar_is, prefix_is, front, back) refl

pub nonce-is : (private message seed prefix : List ℕ) → seed ≡ take 32 private → prefix ≡ drop 32 (sha512 seed)
    → nonce_of prefix message ≡ nonce (take 32 private) message
nonce-is private message seed prefix front prefix_is = rw (prefix_is, front) refl

pub public-is : (private seed scalar encoding : List ℕ) → seed ≡ take 32 private → scalar ≡ clamped (take 32 (sha512 seed))
    → encoding ≡ encoded (multiple (number32 scalar) base) → encoding ≡ ed25519_public (take 32 private)
public-is private seed scalar encoding front scalar_is made = made ∙ rw (scalar_is, front) refl

-- what follows from what is said of the value in an `Ok`
pub IfOk_then : {X Y : Type 0} (r : Result X Y) {P Q : X → Type 0} → IfOk r P → ((x : X) → P x → Q x) → IfOk r Q
IfOk_then r {P} {Q} h f = IfOk-weaker r P Q f h
