-- Nonces that the private key and the message determine (RFC 6979, section 3.2), with HMAC-SHA384. Here a digest has as
-- many bits as n, so that T is one V.
use Rattle.std.specs.Prelude.{ℕ, List, [], ◌∷◌, ◌++◌, replicate}
use Rattle.rusty_paseto_primitives.specs.Hmac.{hmac}
use Rattle.paseto_p384.specs.declared.nonce.NonceGenerator.{NonceGenerator}

-- HMAC of V, an octet, the private key and the hash, under K (steps d and f)
unfoldable pub mixed : List ℕ → List ℕ → ℕ → List ℕ → List ℕ → List ℕ
mixed key value octet private hash = hmac key (((value ++ octet ∷ []) ++ private) ++ hash)

-- K and V for a private key and a reduced hash, each of 48 octets (steps b to g)
unfoldable pub started : List ℕ → List ℕ → NonceGenerator
started private hash =
    let ones = replicate 48 1 in
    let k = mixed (replicate 48 0) ones 0 private hash in
    let v = hmac k ones in
    let key = mixed k v 1 private hash in
    record { key = key; value = hmac key v }

-- V is the next candidate (step h, 2)
unfoldable pub drawn : NonceGenerator → NonceGenerator
drawn g = record { key = g.key; value = hmac g.key g.value }

-- the candidate was no nonce (step h, 3)
unfoldable pub retried : NonceGenerator → NonceGenerator
retried g =
    let key = hmac g.key (g.value ++ 0 ∷ []) in
    record { key = key; value = hmac key g.value }
