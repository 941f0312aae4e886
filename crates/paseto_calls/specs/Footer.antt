-- The footer of a token, as C reads it.
use Rattle.std.specs.Prelude.{◌≡◌, ℕ, List, [], Option, unwrap_or}
use Rattle.std.specs.List.{slice_get}
use Rattle.rusty_paseto_parts.specs.Section.{HasCount, sections}
use Rattle.rusty_paseto_parts.specs.UntrustedToken.{HasFooterText, IsTokenFooterFault}
use Rattle.rusty_paseto_parts.specs.declared.error.PasetoError.{PasetoError}
use Rattle.paseto_calls.specs.Refusal.{token_refusal}
use Rattle.paseto_calls.specs.declared.refusal.Refusal.{Refusal}

-- the text is that of the token's fourth section, and the empty one where there is none
pub record HasFooter (token text : List ℕ) : Type 0 where
  pub count : HasCount (sections token)
  pub found : Option (List ℕ)
  pub has : HasFooterText (slice_get (sections token) 3) found
  pub is_text : text ≡ unwrap_or found []

-- the refusal is for a fault of the token's sections, or of the fourth
pub record IsFooterFault (token : List ℕ) (refusal : Refusal) : Type 0 where
  pub error : PasetoError
  pub is_fault : IsTokenFooterFault (sections token) error
  pub is_refusal : refusal ≡ token_refusal error
