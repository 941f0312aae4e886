-- Keys, signing and verifying (RFC 8032, sections 5.1.5 to 5.1.7). A multiple of a point is it added up so often.
use Rattle.std.specs.Prelude.{◌≡◌, ◌≢◌, ◌⊎◌, ℕ, ◌+◌, ◌*◌, ◌/◌, ◌%◌, ◌<◌, List, ◌++◌, length, take, drop, slice_index, slice_set, Option, None, Some}
use Rattle.sha2.specs.Sha512.{sha512}
use Rattle.rusty_paseto_parts.specs.declared.error.PasetoError.TheVariants.{InvalidSignature, KeyRejected, Signature}
use Rattle.rusty_paseto_core.specs.Public.Scheme.{Declining, Refusal}
use Rattle.paseto_edwards_laws.specs.Group.{Affine}
use Rattle.paseto_edwards25519.specs.Curve.{HasSmallOrder, multiple, opposite, sum}
use Rattle.paseto_edwards_laws.specs.Edwards25519.{base, order}
use Rattle.paseto_edwards25519.specs.Encoding.{decoded, encoded}
use Rattle.paseto_edwards25519.specs.Scalar.{bytes32, number32, reduced}

-- the scalar that the first half of a digest gives: the three lowest bits and the highest cleared, the second
-- highest set (5.1.5, step 2)
unfoldable pub clamped : List ℕ → List ℕ
clamped half =
    let cleared = slice_set half 0 (slice_index half 0 / 8 * 8) in
    slice_set cleared 31 (slice_index cleared 31 % 64 + 64)

-- s, of a seed (5.1.5, step 3)
abbrev pub secret_scalar : List ℕ → ℕ
secret_scalar seed = number32 (clamped (take 32 (sha512 seed)))

-- the public key of a seed: [s]B (5.1.5, step 4)
abbrev pub ed25519_public : List ℕ → List ℕ
ed25519_public seed = encoded (multiple (secret_scalar seed) base)

-- k, which binds R, the public key and the message (5.1.6, step 4, and 5.1.7, step 2)
abbrev pub challenge : List ℕ → List ℕ → List ℕ → ℕ
challenge r public message = reduced (sha512 ((r ++ public) ++ message))

-- r, whose multiple of the base point is R: of the second half of the seed's digest, and the message (5.1.6, step 2)
abbrev pub nonce_of : List ℕ → List ℕ → ℕ
nonce_of prefix message = reduced (sha512 (prefix ++ message))

abbrev pub nonce : List ℕ → List ℕ → ℕ
nonce seed message = nonce_of (drop 32 (sha512 seed)) message

-- R and S: [r]B, and r + k * s modulo L (5.1.6, steps 3 to 6)
unfoldable pub signed : ℕ → ℕ → List ℕ → List ℕ → List ℕ
signed r s public message =
    let commitment = encoded (multiple r base) in
    commitment ++ bytes32 ((r + challenge commitment public message * s) % order)

-- the signature of a message under a private key, which is a seed and its public key (5.1.6)
unfoldable pub ed25519_sign : List ℕ → List ℕ → List ℕ
ed25519_sign private message =
    let seed = take 32 private in
    signed (nonce seed message) (secret_scalar seed) (drop 32 private) message

-- [S]B + [k](-A) is encoded as R, and neither A nor R is of small order: under such a key one signature would serve
-- for many messages, if not all. No signature is valid for a public key that is no point
abbrev pub IsSum : Option Affine → ℕ → ℕ → List ℕ → Type 0
IsSum None s k r = ⊥
IsSum (Some a) s k r =
    let total = sum (multiple s base) (multiple k (opposite a)) in
    (¬ HasSmallOrder a) × (¬ HasSmallOrder total) × (encoded total ≡ r)

-- a signature of 64 bytes is R and S, and valid where S < L, the public key is a point, and the sum is R (5.1.7,
-- without the cofactor)
unfoldable pub Ed25519Verifies : List ℕ → List ℕ → List ℕ → Type 0
Ed25519Verifies public message signature =
    let r = take 32 signature in
    let s = number32 (drop 32 signature) in
    (length public ≡ 32)
    × (s < order)
    × IsSum (decoded public) s (challenge r public message) r

-- the public half of a private key
abbrev pub partner : List ℕ → List ℕ
partner private = drop 32 private

-- the public half of a private key is its seed's
abbrev pub IsOwn : List ℕ → Type 0
IsOwn private = ed25519_public (take 32 private) ≡ partner private

-- a message has a signature under a private key whose public half is its own, unless r is 0: then R would be the
-- neutral point, which is of small order. No such message is known
abbrev pub IsSigned : List ℕ → List ℕ → Type 0
IsSigned private message = IsOwn private × (nonce (take 32 private) message ≢ 0)

-- what is answered for a signature that is not valid
abbrev pub IsRefused : Refusal
IsRefused public message signature error = error ≡ InvalidSignature

-- what is answered for a private key that has not 64 bytes, or under which the message has no signature
abbrev pub IsDeclined : Declining
IsDeclined private message error =
    ((length private ≢ 64) × (error ≡ KeyRejected))
    ⊎ ((length private ≡ 64) × (error ≡ Signature) × ¬ IsSigned private message)
