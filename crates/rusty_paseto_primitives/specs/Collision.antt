-- Collisions of SHA-384, as two equal HMACs show them.
use Rattle.std.specs.Prelude.{◌≡◌, ◌≢◌, ◌⊎◌, ℕ, List}
use Rattle.sha2.specs.Sha512.{sha384}
use Rattle.rusty_paseto_primitives.specs.Hmac.{inner_input, outer_input}

-- two lists are different and have one SHA-384 digest
pub record IsSha384Collision (first second : List ℕ) : Type 0 where
  pub apart : first ≢ second
  pub digest : sha384 first ≡ sha384 second

-- the inner or the outer lists that SHA-384 takes in two HMACs are a collision of it
abbrev pub IsHmacCollision : List ℕ → List ℕ → List ℕ → List ℕ → Type 0
IsHmacCollision key message other_key other_message =
    IsSha384Collision (inner_input key message) (inner_input other_key other_message)
    ⊎ IsSha384Collision (outer_input key message) (outer_input other_key other_message)
