-- What verifying has found, as the validity of a signature.
use Rattle.std.proofs.Common.{◌≡◌, ℕ, ◌<◌, List, length, take, drop}
use Rattle.paseto_ed25519.specs.Ed25519.{Ed25519Verifies, IsSum, challenge}
use Rattle.paseto_edwards25519.specs.Encoding.{decoded}
use Rattle.paseto_edwards25519.specs.Scalar.{number32}
use Rattle.paseto_edwards_laws.specs.Edwards25519.{order}

-- the last test decides where the others passed
pub valid-sum : (public message signature r s : List ℕ) (k : ℕ) → length public ≡ 32
    → r ≡ take 32 signature → s ≡ drop 32 signature → k ≡ challenge r public message
    → number32 s < order
    → (IsSum (decoded public) (number32 s) k r → Ed25519Verifies public message signature)
    × (Ed25519Verifies public message signature → IsSum (decoded public) (number32 s) k r)
unfolding Ed25519Verifies
valid-sum public message signature r s k len front back challenged below =
    let low = rw back at below in
    rw (challenged, front, back) ((λ h. (len, low, h)), (λ h. h.2))

-- the length is one of the tests
pub valid-length : (public message signature : List ℕ) → Ed25519Verifies public message signature → length public ≡ 32
unfolding Ed25519Verifies
valid-length public message signature h = h.0

-- and so is the order
pub valid-below : (public message signature s : List ℕ) → s ≡ drop 32 signature
    → Ed25519Verifies public message signature → number32 s < order
unfolding Ed25519Verifies
valid-below public message signature s back h = rw back h.1
