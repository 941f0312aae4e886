-- Private keys, and what signing and verifying have found.
use Rattle.std.proofs.Common.{◌≡◌, ℕ, ◌<◌, List, length, take, drop, sym, ◌∙◌, ap, subst}
use Rattle.std.specs.Prelude.{Option, None, Some}
use Rattle.paseto_montgomery.specs.Octets.{os2ip}
use Rattle.paseto_weierstrass_laws.specs.Curve.{order}
use Rattle.paseto_p384.specs.Ecdsa.{Accepts}
use Rattle.paseto_p384.specs.Encoding.{decoded}
use Rattle.paseto_p384.specs.Nonce.{drawn, retried}
use Rattle.paseto_p384.specs.P384.{AcceptsBy, IsPrivate, P384Verifies, either, first_candidate, hash_number, p384_sign, signed_by}
use Rattle.paseto_weierstrass_laws.specs.Point.{Point}
use Rattle.paseto_p384.specs.declared.nonce.NonceGenerator.{NonceGenerator}

pub private-parts : (private : List ℕ) → IsPrivate private → (length private ≡ 48) × ((0 < os2ip private) × (os2ip private < order))
unfolding IsPrivate
private-parts private h = h

pub private-of : (private : List ℕ) → length private ≡ 48 → (0 < os2ip private) × (os2ip private < order) → IsPrivate private
unfolding IsPrivate
private-of private size range = (size, range)

-- the length is one of the tests
pub valid-length : (public message signature : List ℕ) → P384Verifies public message signature → length public ≡ 49
unfolding P384Verifies
valid-length public message signature h = h.0

-- nothing is valid for what is no point
pub valid-none : (public message signature : List ℕ) → None ≡ decoded public → P384Verifies public message signature → ⊥
unfolding P384Verifies
valid-none public message signature e h =
    let A : Option Point → Type 0 = λ q. AcceptsBy q (hash_number message) (os2ip (take 48 signature)) (os2ip (drop 48 signature)) in
    subst A (sym e) h.1

-- for a point, the signature decides
pub valid-some : (public message signature : List ℕ) (q : Point) (e r s : ℕ) → length public ≡ 49
    → Some q ≡ decoded public
    → e ≡ hash_number message → r ≡ os2ip (take 48 signature) → s ≡ os2ip (drop 48 signature)
    → (Accepts q e r s → P384Verifies public message signature) × (P384Verifies public message signature → Accepts q e r s)
unfolding P384Verifies
valid-some public message signature q e r s size point hash first second =
    let A : Option Point → Type 0 = λ p. AcceptsBy p (hash_number message) (os2ip (take 48 signature)) (os2ip (drop 48 signature)) in
    rw (hash, first, second) ((λ h. (size, subst A point h)), (λ h. subst A (sym point) h.1))

pub sign-first : (private message made : List ℕ) (g : NonceGenerator) → g ≡ first_candidate private message
    → Some made ≡ signed_by private message g → Some made ≡ p384_sign private message
unfolding p384_sign
sign-first private message made g e h =
    let B : Option (List ℕ) → Option (List ℕ) = λ o. either o (signed_by private message (drawn (retried (first_candidate private message)))) in
    ap B (h ∙ ap (signed_by private message) e)

pub sign-second : (private message : List ℕ) (g : NonceGenerator) → g ≡ first_candidate private message
    → None ≡ signed_by private message g → signed_by private message (drawn (retried g)) ≡ p384_sign private message
unfolding p384_sign
sign-second private message g e h =
    let B : Option (List ℕ) → Option (List ℕ) = λ o. either o (signed_by private message (drawn (retried (first_candidate private message)))) in
    ap (λ n. signed_by private message (drawn (retried n))) e ∙ ap B (h ∙ ap (signed_by private message) e)
