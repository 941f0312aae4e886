-- The command `check`.
use Rattle.std.specs.Prelude.{◌≡◌, ℕ, List, [], true, false, Option, None, Some, is_some, codes, option_map, string_bytes, unwrap_or}
use Rattle.jiff.specs.Types.{Timestamp}
use Rattle.serde_json.specs.Data.{Data}
use Rattle.rusty_paseto_core.specs.Context.{assertion_of}
use Rattle.rusty_paseto_core.specs.Reading.{HasFooter}
use Rattle.rusty_paseto_generic.specs.Parsers.Held.{default_date}
use Rattle.rusty_paseto_generic.specs.Parsers.Parsing.{IsParsed}
use Rattle.rusty_paseto_generic.specs.Parsers.Rules.{Rules, edited, no_rule, with_both}
use Rattle.rusty_paseto_generic.specs.Parsers.Times.{expiry, not_before, times_at}
use Rattle.rusty_paseto_generic.specs.Parsers.Verdicts.{PassesAll}
use Rattle.rusty_paseto_generic.specs.Validator.{Verdict}
use Rattle.rusty_paseto_parts.specs.Section.{HasCount, sections}
use Rattle.rusty_paseto_parts.specs.declared.texts.implicit_assertion.ImplicitAssertion.{ImplicitAssertion}
use Rattle.paseto_keys.specs.AnyKey.{KeyParts, reads_tokens, takes_assertion}
use Rattle.paseto_keys.specs.Reading.{reading_by}
use Rattle.paseto_tasks.specs.declared.arguments.Options.{Options}
use Rattle.paseto_tasks.specs.Error.{BlamesOnly, IsFixed, nothing}
use Rattle.paseto_tasks.specs.declared.error.ProgramError.{ProgramError}
use Rattle.paseto.specs.declared.commands.check.Demands.{Demands}
use Rattle.paseto.specs.Claims.{AreClaims, Named, all_demanded, all_named, all_required, are_whole}
use Rattle.paseto.specs.Footers.{IsFooter}
use Rattle.paseto_tasks.specs.Arguments.{texts}
use Rattle.paseto.specs.Times.{IsLeeway, SaysMoment}

-- what is demanded of a token: the moment at which it is checked, and how many seconds clocks may differ by, its claims,
-- the names of further ones, and its footer and its assertion or none
pub record Demanded : Type 0 where
  pub at : Timestamp
  pub leeway : ℕ
  pub claims : List Named
  pub required : List (List ℕ)
  pub footer : Option (List ℕ)
  pub assertion : Option ImplicitAssertion

abbrev pub demanded : Demands → Demanded
demanded demands = record {
  at = demands.at;
  leeway = demands.leeway;
  claims = all_named demands.claims.items;
  required = texts demands.required.now;
  footer = option_map string_bytes demands.footer;
  assertion = demands.assertion;
}

-- the moment of checking: that of the word, or else the present one
abbrev pub IsCheckedAt : Option (List ℕ) → Timestamp → Timestamp → Type 0
IsCheckedAt (Some word) now moment = SaysMoment word now moment
IsCheckedAt None now moment = moment ≡ now

-- what words demand at a moment
pub record AreDemands (claims : List (List ℕ)) (options : Options) (now : Timestamp) (demands : Demanded) : Type 0 where
  pub moment : IsCheckedAt (option_map (λ word. word.now) options.at) now demands.at
  pub leeway : IsLeeway (option_map (λ word. word.now) options.leeway) demands.leeway
  pub are_claims : AreClaims claims demands.claims
  pub required : demands.required ≡ texts options.required.now
  pub footer : IsFooter options demands.footer
  pub assertion : demands.assertion ≡ options.assertion

-- `exp` and `nbf` are checked at a moment, before the claims that are demanded
abbrev pub first_rules : Timestamp → ℕ → Rules Verdict
first_rules moment leeway =
    edited (codes "nbf") (with_both (not_before (times_at moment leeway)) (default_date (codes "nbf")))
    (edited (codes "exp") (with_both (expiry (times_at moment leeway)) (default_date (codes "exp"))) (λ key. no_rule))

-- what is checked under each key
abbrev pub demanded_rules : Demanded → Rules Verdict
demanded_rules demands = all_required demands.required (all_demanded demands.claims (first_rules demands.at demands.leeway))

-- the value is what is demanded
pub record IsDemanded (demands : Demanded) (value : Data) : Type 0 where
  pub whole : are_whole demands.claims ≡ true
  pub passes : PassesAll (demanded_rules demands) value

-- the token's footer is another one than this, or than the empty one where this is none
abbrev pub IsOtherFooter : Option (List ℕ) → List ℕ → Type 0
IsOtherFooter footer token = HasCount (sections token) × ¬ HasFooter (unwrap_or footer []) (sections token)

-- the value is that of the token, read under a key that reads tokens, the footer that is demanded and the assertion, which
-- the key's version has; where no footer is demanded, the token has none, or the empty one
pub record ParsesByKey (key : KeyParts) (footer : Option (List ℕ)) (assertion : Option ImplicitAssertion) (token : List ℕ) (value : Data) : Type 0 where
  pub reads : reads_tokens key.kind ≡ true
  pub bound : takes_assertion key.version ≡ false → is_some assertion ≡ false
  pub is_parsed : IsParsed (reading_by key (unwrap_or footer []) (assertion_of assertion)) (λ key. no_rule) token value

-- the value is the one that the token has under a key
abbrev pub IsTheValueOf : KeyParts → Option (List ℕ) → Option ImplicitAssertion → List ℕ → Data → Type 0
IsTheValueOf key footer assertion token value =
    ParsesByKey key footer assertion token value × ((other : Data) → ParsesByKey key footer assertion token other → other ≡ value)

-- why it has none
pub record RefusesKey (key : KeyParts) (footer : Option (List ℕ)) (assertion : Option ImplicitAssertion) (token : List ℕ) (error : ProgramError) : Type 0 where
  pub none : (value : Data) → ¬ ParsesByKey key footer assertion token value
  pub fixed : IsFixed error
  pub blames : BlamesOnly (record nothing { other_footer = IsOtherFooter footer token }) error
