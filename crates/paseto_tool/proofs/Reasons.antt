-- Why nothing is opened, from what the opening of a token answers.
use Rattle.std.proofs.Common.{◌≡◌, ◌∙◌, ℕ, List, ◌⊎◌, inl, inr, Bool, false, Option, None, Some, IfSome, is_some, Result, Ok, Err, IfOk, String, Global, string_bytes, refl, sym, subst, option_map}
use Rattle.std.proofs.lemmas.Bool.{false≢true}
use Rattle.rusty_paseto_parts.specs.Footer.{footer_text}
use Rattle.rusty_paseto_parts.specs.ImplicitAssertion.{assertion_text}
use Rattle.rusty_paseto_parts.specs.declared.texts.footer.Footer.{Footer}
use Rattle.rusty_paseto_parts.specs.declared.texts.implicit_assertion.ImplicitAssertion.{ImplicitAssertion}
use Rattle.rusty_paseto_core.specs.Context.{Binding, binding_of}
use Rattle.rusty_paseto_parts.specs.Error.{IsMemory}
use Rattle.rusty_paseto_parts.specs.declared.error.PasetoError.{PasetoError}
use Rattle.rusty_paseto_parts.specs.declared.error.PasetoError.TheVariants.{Memory}
use Rattle.rusty_paseto_core.specs.Local.{Design}
use Rattle.rusty_paseto_core.specs.Local.Sealing.{sealing}
use Rattle.rusty_paseto_core.specs.Local.Opening.{opening}
use Rattle.rusty_paseto_core.specs.Reading.{IsFault}
use Rattle.paseto_tool.specs.Error.{tool_error_of}
use Rattle.paseto_tool.specs.Version.{IsBound}
use Rattle.paseto_tool.specs.Arguments.{Says}
use Rattle.paseto_tool.specs.Seal.{binding}
use Rattle.paseto_tool.specs.Open.{token_of, IsOpeningReason, no_token}

-- what holds of every value holds of the one that is known
pub IfSome-all : {X : Type 0} (known : Option X) (P : X → Type 0) → ((x : X) → P x) → IfSome known P
IfSome-all None P h = tt
IfSome-all (Some x) P h = h x

-- the binding under the attachments that were given
pub binding_of-given : (key : List ℕ) (footer : Option Footer) (assertion : Option ImplicitAssertion)
    → binding_of key footer assertion ≡ binding key (option_map footer_text footer) (option_map assertion_text assertion)
binding_of-given key None None = refl
binding_of-given key None (Some a) = refl
binding_of-given key (Some f) None = refl
binding_of-given key (Some f) (Some a) = refl

-- where the tokens are bound to no implicit assertion, none was given
pub none_given : (design : Design) (assertion : Option ImplicitAssertion) → IsBound design (option_map assertion_text assertion)
    → design.binds_assertion ≡ false → assertion ≡ None
none_given design None h unbound = refl
none_given design (Some a) h unbound = absurd (false≢true (sym unbound ∙ h refl))

pub is_some-given : (footer : Option Footer) → is_some footer ≡ is_some (option_map footer_text footer)
is_some-given None = refl
is_some-given (Some f) = refl

-- a sealing, in equal words
pub IfOk-sealing : (design : Design) (result : Result (String Global) PasetoError) (b b2 : Binding) (n n2 : List ℕ) (w w2 : Bool) (t t2 : List ℕ)
    → b ≡ b2 → n ≡ n2 → w ≡ w2 → t ≡ t2 → IfOk result (λ token. string_bytes token ≡ sealing design b n w t)
    → IfOk result (λ token. string_bytes token ≡ sealing design b2 n2 w2 t2)
IfOk-sealing design (Ok token) b b2 n n2 w w2 t t2 be ne we te h = h ∙ rw (be, ne, we, te) refl
IfOk-sealing design (Err error) b b2 n n2 w w2 t t2 be ne we te h = tt

module _ (design : Design) (key key_bytes : List ℕ) (says : Says key key_bytes) where
  fault_reason : (footer assertion : Option (List ℕ)) (input : List ℕ) (error : PasetoError)
      → IsMemory error ⊎ IsFault (opening design (binding key_bytes footer assertion)) (token_of input) error
      → IsOpeningReason design key footer assertion input (tool_error_of error)
  fault_reason footer assertion input (Memory source) h = tt
  fault_reason footer assertion input error (inr fault) = no_token error key_bytes says fault
  fault_reason footer assertion input error (inl memory) = absurd memory

  -- an opening that fails says why
  pub IsOpeningReason-fault : (footer assertion : Option (List ℕ)) (input token : List ℕ) (error : PasetoError) → token ≡ token_of input
      → IsMemory error ⊎ IsFault (opening design (binding key_bytes footer assertion)) token error
      → IsOpeningReason design key footer assertion input (tool_error_of error)
  IsOpeningReason-fault footer assertion input token error e h =
      fault_reason footer assertion input error
      (subst (λ (t : List ℕ). IsMemory error ⊎ IsFault (opening design (binding key_bytes footer assertion)) t error) e h)
