-- Which bytes a key takes that owns them.
use Rattle.std.specs.Prelude.{◌≡◌, ◌↔◌, ℕ, List, Bool, IsTrue, Result, IsOk, IfOk, IfErr}
use Rattle.rusty_paseto_parts.specs.declared.error.PasetoError.{PasetoError}
use Rattle.rusty_paseto_parts.specs.declared.error.PasetoError.TheVariants.{InvalidKey}

-- the answer for bytes is the key of these bytes, exactly where such a key may have them
pub record TakesKey (may_have : Bool) (bytes : List ℕ) (answer : Result (List ℕ) PasetoError) : Type 0 where
  pub taken : IsOk answer ↔ IsTrue may_have
  pub same : IfOk answer (λ key. key ≡ bytes)
  pub refused : IfErr answer (λ error. error ≡ InvalidKey)
