-- The options for a token, of words.
use Rattle.std.specs.Prelude.{◌≡◌, ◌<◌, ◌^◌, ℕ, List, [], Option, None, Some, option_map}
use Rattle.std.specs.Str.Parse.{IsNumeral, digits_value, without_leading_plus}
use Rattle.rusty_paseto_parts.specs.Footer.{footer_text}
use Rattle.rusty_paseto_parts.specs.ImplicitAssertion.{assertion_text}
use Rattle.paseto_tasks.specs.Arguments.{texts}
use Rattle.paseto_tasks.specs.declared.arguments.Options.{Options}
use Rattle.paseto_words.specs.Action.{footing, text, texts_of}
use Rattle.paseto_words.specs.declared.action.Check.{Check}
use Rattle.paseto_words.specs.declared.action.Issue.{Issue}

-- options as texts
pub record OptionTexts : Type 0 where
  pub footer : Option (List ℕ)
  pub kid : Option (List ℕ)
  pub assertion : Option (List ℕ)
  pub expires : Option (List ℕ)
  pub not_before : Option (List ℕ)
  pub at : Option (List ℕ)
  pub leeway : Option (List ℕ)
  pub required : List (List ℕ)

abbrev pub option_texts : Options → OptionTexts
option_texts options = record {
  footer = option_map footer_text options.footer;
  kid = text options.kid;
  assertion = option_map assertion_text options.assertion;
  expires = text options.expires;
  not_before = text options.not_before;
  at = text options.at;
  leeway = text options.leeway;
  required = texts options.required.now;
}

-- the empty implicit assertion is that of a token without one
abbrev pub not_empty : Option (List ℕ) → Option (List ℕ)
not_empty (Some []) = None
not_empty assertion = assertion

-- of words that say a footer and an implicit assertion alone
abbrev pub text_options : Option (List ℕ) → Option (List ℕ) → OptionTexts
text_options footer assertion = record {
  footer = footer;
  kid = None;
  assertion = not_empty assertion;
  expires = None;
  not_before = None;
  at = None;
  leeway = None;
  required = [];
}

-- of the words of `issue`
abbrev pub issue_options : Issue → OptionTexts
issue_options words = record {
  footer = (footing words.foot).0;
  kid = (footing words.foot).1;
  assertion = not_empty (text words.assertion);
  expires = text words.expires;
  not_before = text words.not_before;
  at = None;
  leeway = None;
  required = [];
}

-- of those of `check`
abbrev pub check_options : Check → OptionTexts
check_options words = record {
  footer = (footing words.foot).0;
  kid = (footing words.foot).1;
  assertion = not_empty (text words.assertion);
  expires = None;
  not_before = None;
  at = text words.at;
  leeway = text words.leeway;
  required = texts_of words.required.items;
}

-- the number of bytes that an input may have: that of the word, in decimal digits behind a plus or none, which fits 64
-- bits, or else 64,000,000
abbrev pub IsLongest : Option (List ℕ) → ℕ → Type 0
IsLongest None longest = longest ≡ 64000000
IsLongest (Some word) longest =
    IsNumeral 10 (without_leading_plus word) × (longest ≡ digits_value 10 (without_leading_plus word)) × (longest < 2 ^ 64)
