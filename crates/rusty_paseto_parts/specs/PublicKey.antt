-- What a public key has to be.
use Rattle.std.specs.Prelude.{◌≡◌, ◌↔◌, ℕ, List, Bool, ◌||◌, ◌==◌, slice_index, IsTrue, Result, IsOk, IfOk, IfErr}
use Rattle.rusty_paseto_parts.specs.declared.error.PasetoError.{PasetoError}
use Rattle.rusty_paseto_parts.specs.declared.error.PasetoError.TheVariants.{InvalidKey}

-- the first byte is one that a compressed point begins with (SEC 1, section 2.3.3)
abbrev pub is_compressed : List ℕ → Bool
is_compressed point = slice_index point 0 == 2 || slice_index point 0 == 3

-- the answer for a point is its bytes, exactly where it is compressed
pub record ReadsPublicKey (point : List ℕ) (answer : Result (List ℕ) PasetoError) : Type 0 where
  pub read : IsOk answer ↔ IsTrue (is_compressed point)
  pub bytes : IfOk answer (λ public. public ≡ point)
  pub refused : IfErr answer (λ error. error ≡ InvalidKey)
