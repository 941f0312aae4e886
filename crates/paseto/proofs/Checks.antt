-- What is answered for the claims of a token.
use Rattle.std.proofs.Common.{◌≡◌, ◌⊎◌, ℕ, List, Option, Result, Ok, Err, IfErr, IfOk, IsErrAnd, IsOk, String, Global, string_bytes, IsUtf8, true, inl, inr, sym, subst}
use Rattle.std.specs.Bool.{⊤}
use Rattle.std.specs.Result.{IsOkAnd}
use Rattle.std.proofs.lemmas.Bool.{false≢true}
use Rattle.jiff.specs.Types.{Timestamp}
use Rattle.serde_json.specs.Data.{Data}
use Rattle.serde_json.specs.View.{view}
use Rattle.serde_json.specs.declared.value.Value.{Value}
use Rattle.rusty_paseto_parts.specs.declared.texts.implicit_assertion.ImplicitAssertion.{ImplicitAssertion}
use Rattle.rusty_paseto_generic.specs.Error.Parser.{IsMemory}
use Rattle.rusty_paseto_generic.specs.Parsers.Parsing.{IsCheckAnswer}
use Rattle.rusty_paseto_generic.specs.Parsers.Rules.{Rules}
use Rattle.rusty_paseto_generic.specs.Validator.{Verdict}
use Rattle.rusty_paseto_generic.specs.declared.error.GenericParserError.{GenericParserError}
use Rattle.paseto_keys.specs.AnyKey.{parts_of}
use Rattle.paseto_keys.specs.declared.any_key.AnyKey.{AnyKey}
use Rattle.paseto_tasks.specs.declared.arguments.Options.{Options}
use Rattle.paseto_tasks.specs.declared.error.ProgramError.{ProgramError}
use Rattle.rusty_paseto_core.specs.declared.PasetoError.TheVariants.{WrongHeader}
use Rattle.paseto_tasks.specs.Error.{BlamesNone, Fails, IsNoUsage, IsOfWords, IsOutside, IsPlain, Lacks, nothing, token_error_of}
use Rattle.paseto_tasks.specs.Input.{IsNoText, OfInput, reading, token_of_input}
use Rattle.paseto_tasks.specs.Output.{Makes}
use Rattle.paseto_tasks.proofs.Blames.{blames_so, fails_so, within_all}
use Rattle.paseto_tasks.proofs.Statuses.{fixed_no_usage, fixed_says, says_so}
use Rattle.paseto.specs.declared.commands.check.Keys.{Keys}
use Rattle.paseto.specs.declared.commands.check.Keys.TheVariants.{One}
use Rattle.paseto.specs.ClaimLine.{SaysOfCheck}
use Rattle.paseto.specs.Check.{AreDemands, Demanded, IsDemanded, IsTheValueOf, RefusesKey, demanded_rules}
use Rattle.paseto.specs.Checked.{Admits, ChecksBy, ChecksFor, IsCheckLine, IsJsonLine, IsTheValueBy, RefusesCheck, RefusesDemands, RefusesKeys}
use Rattle.paseto.specs.Claims.{are_whole}
use Rattle.paseto.specs.Gives.{Gives}
use Rattle.paseto.specs.Ring.{IsRingLine}
use Rattle.paseto.proofs.Lines.{told_check}
use Rattle.paseto.proofs.Payloads.{outside_or_not}

-- ---- lines

-- the line of claims, or the error in their place
pub line_made : (Is : Data → Type 0) (Refuses : ProgramError → Type 0) (claims : Result Value ProgramError) (made : Result (String Global) ProgramError)
    → Gives (λ value. Is (view value)) Refuses (Fails nothing) claims
    → IfOk made (λ line. IsOkAnd claims (λ value. IsJsonLine (view value) (string_bytes line)))
    → IfErr made (λ error. IsErrAnd claims (λ source. source ≡ error) ⊎ Fails nothing error)
    → Makes (λ line. (value : Data) × Is value × IsJsonLine value line) Refuses (Fails nothing) made
line_made Is Refuses (Ok value) (Ok line) gives said told = record { printed = (view value, gives.given, said); refused = tt }
line_made Is Refuses (Err source) (Ok line) gives said told = absurd said
line_made Is Refuses (Ok value) (Err error) gives said (inl none) = absurd none
line_made Is Refuses (Err source) (Err error) gives said (inl same) = record { printed = tt; refused = rw (sym same) gives.refused }
line_made Is Refuses claims (Err error) gives said (inr fails) = record { printed = tt; refused = inr fails }

-- ---- keys

module _ (key : AnyKey) (footer : Option (List ℕ)) (assertion : Option ImplicitAssertion) (token : List ℕ) where
  -- a refusal of one key, as that of keys
  by_key : (error : ProgramError) → RefusesKey (parts_of key) footer assertion token error → RefusesKeys (One key) footer assertion token error
  by_key error is = record { none = is.none; no_usage = fixed_no_usage error is.fixed; said = fixed_says (IsRingLine token) error is.fixed; blames = is.blames }

  -- a token of another kind
  other_kind : (error : ProgramError) → IsPlain error → RefusesKey (parts_of key) footer assertion token (token_error_of WrongHeader) → RefusesKeys (One key) footer assertion token error
  other_kind error plain is = record {
    none = is.none;
    no_usage = fixed_no_usage error plain.0;
    said = fixed_says (IsRingLine token) error plain.0;
    blames = blames_so (within_all _) error plain.1;
  }

  pub kinds_give : (answer result : Result Value ProgramError)
      → Gives (λ value. IsTheValueOf (parts_of key) footer assertion token (view value)) (RefusesKey (parts_of key) footer assertion token) (Fails nothing) answer
      → IfOk result (λ value. answer ≡ Ok value)
      → IfErr result (λ error. IsErrAnd answer (λ source. (source ≡ error) ⊎ ((source ≡ token_error_of WrongHeader) × IsPlain error)))
      → Gives (λ value. IsTheValueBy (One key) footer assertion token (view value)) (RefusesKeys (One key) footer assertion token) (Fails nothing) result
  kinds_give answer (Ok value) gives is told = record { given = rw is at gives.given; refused = tt }
  kinds_give (Ok value) (Err error) gives is told = absurd told
  kinds_give (Err source) (Err error) gives is (inl same) = record {
    given = tt;
    refused = subst (λ (e : ProgramError). RefusesKeys (One key) footer assertion token e ⊎ Fails nothing e) same
        (elim gives.refused [ inl refuses ↦ inl (by_key source refuses) | inr fails ↦ inr fails ]);
  }
  kinds_give (Err source) (Err error) gives is (inr other) = record {
    given = tt;
    refused = elim (rw other.0 at gives.refused) [ inl refuses ↦ inl (other_kind error other.1 refuses) | inr fails ↦ absurd fails.0 ];
  }

-- ---- claims

-- what passes the checks is what is demanded
fit : (demands : Demanded) (value : Data) (rules : Rules Verdict) (answer : Result ⊤ GenericParserError) → rules ≡ demanded_rules demands
    → IsCheckAnswer rules value answer → IsOk answer → are_whole demands.claims ≡ true → IsDemanded demands value
fit demands value rules (Ok passed) same answered ok whole = record { whole = whole; passes = rw same at answered.passes }
fit demands value rules (Err source) same answered ok whole = absurd (false≢true ok)

module _ (keys : Keys) (demands : Demanded) (token : List ℕ) where
  -- no line is that of a token that has no value under the keys
  pub keys_refuse : (error : ProgramError) → RefusesKeys keys demands.footer demands.assertion token error ⊎ Fails nothing error → RefusesDemands keys demands token error ⊎ Fails nothing error
  keys_refuse error (inl is) = inl (record {
    none = λ line checks. is.none checks.0 checks.1.parses;
    no_usage = is.no_usage;
    said = says_so (IsRingLine token) (IsCheckLine keys demands token) (λ line of_ring. inl of_ring) error is.said;
    blames = is.blames;
  })
  keys_refuse error (inr fails) = inr fails

  -- nor where what is demanded is no claims
  pub never_whole : (error : ProgramError) → IsOutside error ⊎ ((are_whole demands.claims ≡ true) → ⊥) → IsPlain error → RefusesDemands keys demands token error ⊎ Fails nothing error
  never_whole error (inl outside) plain = inr (outside, plain.1)
  never_whole error (inr none) plain = inl (record {
    none = λ line checks. none checks.1.is_demanded.whole;
    no_usage = fixed_no_usage error plain.0;
    said = fixed_says (IsCheckLine keys demands token) error plain.0;
    blames = blames_so (within_all _) error plain.1;
  })

  module _ (value : Data) (is : IsTheValueBy keys demands.footer demands.assertion token value) (rules : Rules Verdict) (same : rules ≡ demanded_rules demands)
      (answer : Result ⊤ GenericParserError) (answered : IsCheckAnswer rules value answer) where
    -- nor that of a token whose claims are others
    pub check_refuses : (error : ProgramError) → IsErrAnd answer (λ source. IsOutside error ⊎ (¬ IsMemory source)) → IsNoUsage error → BlamesNone error
        → IsErrAnd answer (λ source. SaysOfCheck demands.claims value demands.at source error) → RefusesDemands keys demands token error ⊎ Fails nothing error
    check_refuses error refused no_usage blames said = by (outside_or_not error) (none_or answer answered refused)
      where
        none_or : (found : Result ⊤ GenericParserError) → IsCheckAnswer rules value found → IsErrAnd found (λ source. IsOutside error ⊎ (¬ IsMemory source))
            → IsOutside error ⊎ ((line : List ℕ) → ¬ ChecksBy keys demands token line)
        none_or (Ok passed) found told = absurd told
        none_or (Err source) found (inl outside) = inl outside
        none_or (Err source) found (inr none) = inr (λ line checks. none (found.complete (rw (sym same, is.1 checks.0 checks.1.parses) at checks.1.is_demanded.passes)))

        by : IsOutside error ⊎ (¬ IsOutside error) → IsOutside error ⊎ ((line : List ℕ) → ¬ ChecksBy keys demands token line)
            → RefusesDemands keys demands token error ⊎ Fails nothing error
        by (inl outside) known = inr (outside, blames)
        by (inr inside) (inl outside) = absurd (inside outside)
        by (inr inside) (inr none) = inl (record {
          none = none;
          no_usage = no_usage;
          said = told_check keys demands token value rules answer error is.0 same answered said;
          blames = blames_so (within_all _) error blames;
        })

    pub admits_value : IsOk answer → are_whole demands.claims ≡ true → Admits keys demands token value
    admits_value ok whole = record { parses = is.0; is_demanded = fit demands value rules answer same answered ok whole }

-- ---- words

module _ (claims : List (List ℕ)) (options : Options) (now : Timestamp) (keys : Keys) (known : Option (List ℕ)) where
  -- the words demand nothing
  pub words_demand_none : (error : ProgramError) → Lacks (λ demands. AreDemands claims options now demands) error → IsOfWords error
      → RefusesCheck claims options now keys known error ⊎ Fails reading error
  words_demand_none error lacks of_words = by (outside_or_not error) lacks
    where
      by : IsOutside error ⊎ (¬ IsOutside error) → Lacks (λ demands. AreDemands claims options now demands) error → RefusesCheck claims options now keys known error ⊎ Fails reading error
      by (inl outside) lacks = inr (outside, blames_so (within_all reading) error of_words.1)
      by (inr inside) (inl outside) = absurd (inside outside)
      by (inr inside) (inr none) = inl (inl (none, of_words, inside))

  module _ (demands : Demanded) (are : AreDemands claims options now demands) where
    -- the input is no text
    pub input_refused : (error : ProgramError) → OfInput known (λ bytes. IsNoText bytes error) ⊎ Fails reading error
        → RefusesCheck claims options now keys known error ⊎ Fails reading error
    input_refused error (inl is) = inl (inr (demands, are, (is.0, is.1, inl is.2)))
    input_refused error (inr fails) = inr fails

    -- the token of the input
    module _ (text : List ℕ) (read : OfInput known (λ bytes. token_of_input bytes ≡ text)) where
      pub token_refused : (error : ProgramError) → RefusesDemands keys demands text error ⊎ Fails nothing error
          → RefusesCheck claims options now keys known error ⊎ Fails reading error
      token_refused error (inl is) = inl (inr (demands, are, (read.0, read.1, inr (rw (sym read.2) at is))))
      token_refused error (inr fails) = inr (fails_so (within_all reading) error fails)

      pub token_checked : IsUtf8 text → (line : List ℕ) → ChecksBy keys demands text line → OfInput known (λ bytes. ChecksFor claims options now keys (token_of_input bytes) line)
      token_checked utf8 line checks = (read.0, read.1, record { demands = demands; are_demands = are; utf8 = rw (sym read.2) at utf8; checks = rw (sym read.2) at checks })

      pub token_made : IsUtf8 text → (made : Result (String Global) ProgramError) → Makes (ChecksBy keys demands text) (RefusesDemands keys demands text) (Fails nothing) made
          → Makes (λ line. OfInput known (λ bytes. ChecksFor claims options now keys (token_of_input bytes) line)) (RefusesCheck claims options now keys known) (Fails reading) made
      token_made utf8 (Ok line) makes = record { printed = token_checked utf8 (string_bytes line) makes.printed; refused = tt }
      token_made utf8 (Err error) makes = record { printed = tt; refused = token_refused error makes.refused }
