-- X25519 and the points of edwards25519 (RFC 7748, section 4.1), and what two parties agree on (section 6.1).
use Rattle.std.specs.Prelude.{◌≡◌, ◌≢◌, ℕ, ◌<◌, ◌^◌, List, None, Some, length, take, drop, replicate}
use Rattle.sha2.specs.Sha512.{sha512}
use Rattle.rusty_paseto_primitives.specs.Bytes.{IsBytes}
use Rattle.paseto_edwards_laws.specs.Group.{Affine}
use Rattle.paseto_edwards25519.specs.Curve.{IsPoint, multiple}
use Rattle.paseto_edwards25519.specs.Encoding.{decoded}
use Rattle.paseto_edwards25519.specs.Extended.{inverse}
use Rattle.paseto_edwards25519.specs.Field.{minus, plus, times}
use Rattle.paseto_edwards25519.specs.Scalar.{bytes32}
use Rattle.paseto_ed25519.specs.Ed25519.{IsOwn, ed25519_public}
use Rattle.paseto_x25519.specs.Agreement.{base_point, decoded_scalar, x25519}
use Rattle.paseto_x25519.specs.Conversion.{IsOfSmallOrder, montgomery}
use Rattle.paseto_x25519.specs.Ladder.{ladder}

-- a secret key is any 32 bytes
pub record IsSecretKey (key : List ℕ) : Type 0 where
  pub size : length key ≡ 32
  pub bytes : IsBytes key

-- u = (1 + y) / (1 - y), and 0 of the neutral point
abbrev pub u_of : Affine → ℕ
u_of a = times (plus 1 a.y) (inverse (minus 1 a.y))

-- the ladder computes u of a multiple, of u of a point
abbrev pub LadderIsMultiple : Type 0
LadderIsMultiple = (k : ℕ) (a : Affine) → IsPoint a → k < 2 ^ 255 → ladder k (u_of a) ≡ u_of (multiple k a)

-- both parties compute the same secret
abbrev pub SecretsAreCommon : Type 0
SecretsAreCommon = (a b : List ℕ) → IsSecretKey a → IsSecretKey b → x25519 a (x25519 b base_point) ≡ x25519 b (x25519 a base_point)

-- the public key of the secret key that a seed of Ed25519 gives is that which its public key gives
abbrev pub KeysMatch : Type 0
KeysMatch = (seed : List ℕ) → x25519 (take 32 (sha512 seed)) base_point ≡ montgomery (ed25519_public seed)

-- X25519 with a public key of Ed25519 is u of a multiple of its point
abbrev pub AgreementIsMultiple : Type 0
AgreementIsMultiple = (secret public : List ℕ) (q : Affine) → IsSecretKey secret → decoded public ≡ Some q
    → x25519 secret (montgomery public) ≡ bytes32 (u_of (multiple (decoded_scalar secret) q))

-- the public half of an Ed25519 private key whose halves belong together is a point, and not of small order, and what a
-- secret key shares with it is not 0
abbrev pub OwnKeysAgree : Type 0
OwnKeysAgree = (private secret : List ℕ) → IsOwn private → IsSecretKey secret
    → (decoded (drop 32 private) ≢ None) × (¬ IsOfSmallOrder (drop 32 private))
    × (x25519 secret (montgomery (drop 32 private)) ≢ replicate 32 0)
