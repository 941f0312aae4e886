-- How many signatures a message has (RFC 8032, section 5.1.7).
use Rattle.std.specs.Prelude.{◌≡◌, ℕ, List, length, take}
use Rattle.rusty_paseto_primitives.specs.Bytes.{IsBytes}
use Rattle.rusty_paseto_core.specs.Context.{Binding}
use Rattle.rusty_paseto_core.specs.Public.{PublicDesign}
use Rattle.rusty_paseto_core.specs.Public.Signing.{IsSignedPayload}
use Rattle.paseto_ed25519.specs.Ed25519.{Ed25519Verifies}

-- at most one S is valid for a public key, a message and R
abbrev pub OneS : Type 0
OneS = (public message first second : List ℕ) → (length first ≡ 64) × IsBytes first → (length second ≡ 64) × IsBytes second
    → take 32 first ≡ take 32 second → Ed25519Verifies public message first → Ed25519Verifies public message second → first ≡ second

-- a text has one payload whose signature begins with R, under a public key, a footer and an assertion
abbrev pub OnePayload : PublicDesign → Type 0
OnePayload design = (binding : Binding) (first second text : List ℕ)
    (one : IsSignedPayload Ed25519Verifies design binding first text) (other : IsSignedPayload Ed25519Verifies design binding second text)
    → take 32 one.signature ≡ take 32 other.signature → first ≡ second
