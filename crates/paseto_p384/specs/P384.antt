-- ECDSA over P-384 with SHA-384 (FIPS 186-5, section 6.4), with the nonces of RFC 6979, on strings of octets.
use Rattle.std.specs.Prelude.{◌≡◌, ◌⊎◌, ℕ, ◌%◌, ◌<◌, List, length, take, drop, Option, None, Some}
use Rattle.sha2.specs.Sha512.{sha384}
use Rattle.rusty_paseto_parts.specs.declared.error.PasetoError.TheVariants.{InvalidSignature, KeyRejected, Signature}
use Rattle.rusty_paseto_core.specs.Public.Scheme.{Declining, Refusal}
use Rattle.paseto_montgomery.specs.Octets.{i2osp, os2ip}
use Rattle.paseto_weierstrass_laws.specs.Curve.{order}
use Rattle.paseto_p384.specs.Ecdsa.{Accepts, attempt}
use Rattle.paseto_p384.specs.Encoding.{decoded, encoded}
use Rattle.paseto_p384.specs.Nonce.{drawn, retried, started}
use Rattle.paseto_weierstrass_laws.specs.Multiples.{multiple_of}
use Rattle.paseto_weierstrass_laws.specs.Point.{Point, base}
use Rattle.paseto_p384.specs.declared.nonce.NonceGenerator.{NonceGenerator}

-- e, the number of the hash: the leftmost 384 bits of its digest, which are all (6.4.1, step 2)
abbrev pub hash_number : List ℕ → ℕ
hash_number message = os2ip (sha384 message)

-- 48 octets are a private key d where 0 < d < n
unfoldable pub IsPrivate : List ℕ → Type 0
IsPrivate private = (length private ≡ 48) × ((0 < os2ip private) × (os2ip private < order))

-- the public key of a private key, a compressed point
unfoldable pub p384_public : List ℕ → List ℕ
p384_public private = encoded (multiple_of (os2ip private) base)

-- no signature is valid for a public key that is no point
abbrev pub AcceptsBy : Option Point → ℕ → ℕ → ℕ → Type 0
AcceptsBy None e r s = ⊥
AcceptsBy (Some q) e r s = Accepts q e r s

-- a signature of 96 octets is r and s
unfoldable pub P384Verifies : List ℕ → List ℕ → List ℕ → Type 0
P384Verifies public message signature =
    (length public ≡ 49)
    × AcceptsBy (decoded public) (hash_number message) (os2ip (take 48 signature)) (os2ip (drop 48 signature))

-- the generator of nonces, whose value is the first candidate
unfoldable pub first_candidate : List ℕ → List ℕ → NonceGenerator
first_candidate private message = drawn (started private (i2osp (hash_number message % order) 48))

-- the signature by a candidate, if it is a nonce and neither half is 0
unfoldable pub signed_by : List ℕ → List ℕ → NonceGenerator → Option (List ℕ)
signed_by private message g = attempt (os2ip private) (hash_number message) (os2ip g.value)

-- the first, or else the second
abbrev pub either : Option (List ℕ) → Option (List ℕ) → Option (List ℕ)
either None second = second
either (Some x) second = Some x

-- the signature of a message under a private key, by the first candidate or the second
unfoldable pub p384_sign : List ℕ → List ℕ → Option (List ℕ)
p384_sign private message =
    let g = first_candidate private message in
    either (signed_by private message g) (signed_by private message (drawn (retried g)))

-- what is answered for a signature that is not valid
abbrev pub IsRefused : Refusal
IsRefused public message signature error = error ≡ InvalidSignature

-- what is answered for what is no private key, or where the two candidates for the message give no signature
abbrev pub IsDeclined : Declining
IsDeclined private message error =
    ((¬ IsPrivate private) × (error ≡ KeyRejected))
    ⊎ (IsPrivate private × (error ≡ Signature) × (p384_sign private message ≡ None))
