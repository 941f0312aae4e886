-- Key rings.
use Rattle.std.specs.Prelude.{◌≡◌, ℕ, List, false, Option, Some, is_some, unwrap_or}
use Rattle.serde_json.specs.Data.{Data}
use Rattle.rusty_paseto_core.specs.Context.{assertion_of}
use Rattle.rusty_paseto_parts.specs.Section.{HasCount, sections}
use Rattle.rusty_paseto_parts.specs.declared.texts.implicit_assertion.ImplicitAssertion.{ImplicitAssertion}
use Rattle.rusty_paseto_generic.specs.Parsers.Rules.{no_rule}
use Rattle.rusty_paseto.specs.KeyRing.{HasFooter, IsParsed, Names}
use Rattle.rusty_paseto_paserk.specs.declared.header.PaserkVersion.{PaserkVersion}
use Rattle.rusty_paseto_paserk.specs.declared.header.PaserkType.{PaserkType}
use Rattle.paseto_keys.specs.AnyKey.{binding, takes_assertion}
use Rattle.paseto_keys.specs.Reading.{reading_of}
use Rattle.paseto_keys.specs.Ring.{kind_in, ring_of}
use Rattle.paseto_keys.specs.declared.any_key.AnyKey.{AnyKey}
use Rattle.paseto_tasks.specs.Error.{BlamesNone, IsNoUsage, Says}
use Rattle.paseto_tasks.specs.declared.error.ProgramError.{ProgramError}
use Rattle.paseto.specs.Answers.{one_line, unknown_text}

-- the value is that of the token, read under the key of its version and purpose that its footer names, under the footer
-- that is demanded, or else its own, and under the assertion, which its version has
pub record ParsesByRing (keys : List AnyKey) (footer : Option (List ℕ)) (assertion : Option ImplicitAssertion) (token : List ℕ) (value : Data) : Type 0 where
  pub kind : PaserkType
  pub version : PaserkVersion
  pub count : HasCount (sections token)
  pub is_kind : kind_in (sections token) ≡ Some (kind, version)
  pub bound : takes_assertion version ≡ false → is_some assertion ≡ false
  pub id : List ℕ
  pub is_parsed : IsParsed (ring_of kind version keys)
      (λ key own. reading_of kind version (binding key (unwrap_or footer own) (assertion_of assertion))) (λ key. no_rule) token id value

-- what is said where the footer of the token names a key that is not in a ring
abbrev pub IsRingLine : List ℕ → List ℕ → Type 0
IsRingLine token line = (footer : List ℕ) × (id : List ℕ) × HasFooter token (Some footer) × Names footer id × (line ≡ one_line (unknown_text id))

-- the value is the one that the token has under the keys
abbrev pub IsTheValueIn : List AnyKey → Option (List ℕ) → Option ImplicitAssertion → List ℕ → Data → Type 0
IsTheValueIn keys footer assertion token value =
    ParsesByRing keys footer assertion token value × ((other : Data) → ParsesByRing keys footer assertion token other → other ≡ value)

-- why it has none
pub record RefusesRing (keys : List AnyKey) (footer : Option (List ℕ)) (assertion : Option ImplicitAssertion) (token : List ℕ) (error : ProgramError) : Type 0 where
  pub none : (value : Data) → ¬ ParsesByRing keys footer assertion token value
  pub no_usage : IsNoUsage error
  pub said : Says (IsRingLine token) error
  pub blames : BlamesNone error
