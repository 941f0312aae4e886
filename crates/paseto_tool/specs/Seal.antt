-- The command `seal`.
use Rattle.std.specs.Prelude.{◌≡◌, ℕ, List, [], ◌∷◌, ◌++◌, ◌⊎◌, Option, is_some, unwrap_or, IsUtf8, ⊤}
use Rattle.rusty_paseto_parts.specs.declared.error.PasetoError.{PasetoError}
use Rattle.rusty_paseto_parts.specs.declared.error.PasetoError.TheVariants.{InvalidKey, Utf8Error}
use Rattle.rusty_paseto_core.specs.Context.{Binding}
use Rattle.rusty_paseto_core.specs.Local.{Design}
use Rattle.rusty_paseto_core.specs.Local.Sealing.{sealing}
use Rattle.paseto_tool.specs.declared.error.ToolError.{ToolError}
use Rattle.paseto_tool.specs.declared.error.ToolError.TheVariants.{Usage, Refused, InputOrOutput, Memory}
use Rattle.paseto_tool.specs.Arguments.{IsDigits, Says}

-- what a token is sealed under: an absent footer or implicit assertion is the empty one
abbrev pub binding : List ℕ → Option (List ℕ) → Option (List ℕ) → Binding
binding key footer assertion =
    record { key = key; footer = unwrap_or footer []; assertion = unwrap_or assertion [] }

-- the line that a text's sealing prints: the token, and a line feed
pub record Seals (design : Design) (key nonce : List ℕ) (footer assertion : Option (List ℕ)) (text line : List ℕ) : Type 0 where
  pub key_bytes : List ℕ
  pub nonce_bytes : List ℕ
  pub is_key : Says key key_bytes
  pub is_nonce : Says nonce nonce_bytes
  pub utf8 : IsUtf8 text
  pub line_is : line
      ≡ sealing design (binding key_bytes footer assertion) (design.token_nonce nonce_bytes text) (is_some footer) text ++ (10 ∷ [])

-- the error refuses the sealing: a key or a nonce that is no 64 digits, or else a text that is not UTF-8
abbrev pub RefusesSealing : List ℕ → List ℕ → List ℕ → PasetoError → Type 0
RefusesSealing key nonce text InvalidKey = (¬ IsDigits key) ⊎ (¬ IsDigits nonce)
RefusesSealing key nonce text (Utf8Error _) = IsDigits key × IsDigits nonce × (¬ IsUtf8 text)
RefusesSealing key nonce text _ = ⊥

-- why nothing is sealed: a refusal, or something outside the words and the text
abbrev pub IsSealingReason : List ℕ → List ℕ → List ℕ → ToolError → Type 0
IsSealingReason key nonce text (Refused error) = RefusesSealing key nonce text error
IsSealingReason key nonce text InputOrOutput = ⊤
IsSealingReason key nonce text (Memory _) = ⊤
IsSealingReason key nonce text Usage = ⊥
