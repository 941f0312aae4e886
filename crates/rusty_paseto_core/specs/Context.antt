-- What a token is bound to besides its nonce and its text.
use Rattle.std.specs.Prelude.{ℕ, List, [], Option}
use Rattle.std.specs.Option.{option_map_or}
use Rattle.rusty_paseto_parts.specs.Footer.{footer_text}
use Rattle.rusty_paseto_parts.specs.ImplicitAssertion.{assertion_text}
use Rattle.rusty_paseto_parts.specs.declared.texts.footer.Footer.{Footer}
use Rattle.rusty_paseto_parts.specs.declared.texts.implicit_assertion.ImplicitAssertion.{ImplicitAssertion}

-- the footer and the implicit assertion
pub record Context : Type 0 where
  pub footer : List ℕ
  pub assertion : List ℕ

-- the key, which is the public one for a public token, the footer and the implicit assertion
pub record Binding : Type 0 where
  pub key : List ℕ
  pub footer : List ℕ
  pub assertion : List ℕ

-- an absent footer is the empty one
abbrev pub footer_of : Option Footer → List ℕ
footer_of footer = option_map_or footer_text footer []

-- an absent implicit assertion is the empty one
abbrev pub assertion_of : Option ImplicitAssertion → List ℕ
assertion_of assertion = option_map_or assertion_text assertion []

abbrev pub context_of : Option Footer → Option ImplicitAssertion → Context
context_of footer assertion = record { footer = footer_of footer; assertion = assertion_of assertion }

-- what a key binds a token to in a context
abbrev pub bound : List ℕ → Context → Binding
bound key context = record { key = key; footer = context.footer; assertion = context.assertion }

-- what a key, a footer and an assertion bind a token to
abbrev pub binding_of : List ℕ → Option Footer → Option ImplicitAssertion → Binding
binding_of key footer assertion = bound key (context_of footer assertion)
