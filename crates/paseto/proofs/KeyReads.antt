-- What keys and rings answer for a token, in the words of the program.
use Rattle.std.proofs.Common.{◌≡◌, ◌⊎◌, ℕ, List, [], length, Bool, true, false, Option, None, Some, option_map, is_some, unwrap_or, Result, Ok, Err, inl, inr, refl, sym, ap, subst, ◌∙◌}
use Rattle.std.proofs.lemmas.Bool.{false≢true}
use Rattle.serde_json.specs.Data.{Data}
use Rattle.serde_json.specs.View.{view}
use Rattle.serde_json.specs.declared.value.Value.{Value}
use Rattle.rusty_paseto_parts.specs.Footer.{footer_text}
use Rattle.rusty_paseto_parts.specs.declared.texts.footer.Footer.{Footer}
use Rattle.rusty_paseto_parts.specs.declared.texts.implicit_assertion.ImplicitAssertion.{ImplicitAssertion}
use Rattle.rusty_paseto_parts.proofs.LimitLemmas.{unlimited}
use Rattle.rusty_paseto_core.specs.Context.{Binding, assertion_of, footer_of}
use Rattle.rusty_paseto_core.specs.Reading.{Reading}
use Rattle.rusty_paseto_core.specs.declared.PasetoError.{PasetoError}
use Rattle.rusty_paseto_core.specs.declared.PasetoError.TheVariants.{FooterInvalid, IncorrectSize, InvalidSignature, FromUtf8Error}
use Rattle.rusty_paseto_generic.specs.Error.Parser.{IsMemory}
use Rattle.rusty_paseto_generic.specs.Parsers.Parsing.{IsFirstFault, IsParseAnswer, IsParsed}
use Rattle.rusty_paseto_generic.specs.Parsers.Rules.{no_rule}
use Rattle.rusty_paseto_generic.specs.declared.error.GenericParserError.{GenericParserError}
use Rattle.rusty_paseto_generic.specs.declared.error.GenericParserError.TheVariants.{CipherError as NotRead, Memory as NoMemory}
use Rattle.rusty_paseto_paserk.specs.declared.header.PaserkType.{PaserkType}
use Rattle.rusty_paseto_paserk.specs.declared.header.PaserkType.TheVariants.{Local, Secret, Public}
use Rattle.rusty_paseto_paserk.specs.declared.header.PaserkVersion.{PaserkVersion}
use Rattle.rusty_paseto_paserk.specs.declared.header.PaserkVersion.TheVariants.{V1, V2, V3, V4}
use Rattle.paseto_keys.specs.AnyKey.{KeyParts, reads_tokens, takes_assertion}
use Rattle.paseto_keys.specs.Claims.{Admits, admitted as answered}
use Rattle.paseto_keys.specs.Reading.{reading_by, reading_of}
use Rattle.paseto_keys.specs.Tokens.{IsUse}
use Rattle.paseto_keys.specs.declared.error.AdmitError.{AdmitError}
use Rattle.paseto_keys.specs.declared.error.AdmitError.TheVariants.{Key as OfKey}
use Rattle.paseto_keys.specs.declared.error.KeyError.TheVariants.{NoAssertion, OtherType}
use Rattle.paseto_tasks.specs.declared.error.ProgramError.{ProgramError}
use Rattle.paseto_tasks.specs.Error.{Blame, Fails, nothing, token_error_of}
use Rattle.paseto_tasks.proofs.Blames.{blames_so, within_all}
use Rattle.paseto_tasks.proofs.Refusals.{token_plain}
use Rattle.paseto.specs.Answers.{admitted, parser_error_of}
use Rattle.paseto.specs.Check.{IsOtherFooter, IsTheValueOf, ParsesByKey, RefusesKey}
use Rattle.paseto.specs.Gives.{Gives}

-- ---- readings

-- the errors with which a payload is refused that is verified
abbrev is_signed_fault : PasetoError → Bool
is_signed_fault IncorrectSize = true
is_signed_fault InvalidSignature = true
is_signed_fault FromUtf8Error = true
is_signed_fault _ = false

signed_fault : {A B C D E F : Type 0} (error : PasetoError)
    → (A × (error ≡ IncorrectSize)) ⊎ ((B × C × (error ≡ InvalidSignature)) ⊎ (D × E × F × (error ≡ FromUtf8Error))) → is_signed_fault error ≡ true
signed_fault error (inl short) = ap is_signed_fault short.1
signed_fault error (inr (inl invalid)) = ap is_signed_fault invalid.2
signed_fault error (inr (inr no_text)) = ap is_signed_fault no_text.3

-- no payload is refused for its footer
no_footer : (kind : PaserkType) (version : PaserkVersion) (binding : Binding) (payload : List ℕ) → (reading_of kind version binding).IsPayloadFault payload FooterInvalid → ⊥
no_footer Local V1 binding payload is = is
no_footer Local V2 binding payload is = is
no_footer Local V3 binding payload is = is
no_footer Local V4 binding payload is = is
no_footer Secret version binding payload is = is
no_footer Public V1 binding payload is = false≢true (signed_fault FooterInvalid is)
no_footer Public V2 binding payload is = false≢true (signed_fault FooterInvalid is)
no_footer Public V3 binding payload is = false≢true (signed_fault FooterInvalid is)
no_footer Public V4 binding payload is = false≢true (signed_fault FooterInvalid is)

-- the footer of a token that is read is the one that is bound
footer_is : (kind : PaserkType) (version : PaserkVersion) (binding : Binding) → (reading_of kind version binding).footer ≡ binding.footer
footer_is Local V1 binding = refl
footer_is Local V2 binding = refl
footer_is Local V3 binding = refl
footer_is Local V4 binding = refl
footer_is Secret version binding = refl
footer_is Public V1 binding = refl
footer_is Public V2 binding = refl
footer_is Public V3 binding = refl
footer_is Public V4 binding = refl

-- the footer that is expected is the one that is demanded, or the empty one
pub expected : (footer : Option Footer) → footer_of footer ≡ unwrap_or (option_map footer_text footer) []
expected None = refl
expected (Some footer) = refl

pub given : (footer : Option Footer) → is_some footer ≡ is_some (option_map footer_text footer)
given None = refl
given (Some footer) = refl

-- ---- one key

module _ (key : KeyParts) (wanted : Option (List ℕ)) (demanded : Option ImplicitAssertion) (token : List ℕ) where
  abbrev Read : Reading
  Read = reading_by key (unwrap_or wanted []) (assertion_of demanded)

  abbrev Is : Value → Type 0
  Is value = IsTheValueOf key wanted demanded token (view value)

  abbrev Refuses : ProgramError → Type 0
  Refuses = RefusesKey key wanted demanded token

  other_footer : IsFirstFault Read (λ key. no_rule) token (NotRead FooterInvalid) → IsOtherFooter wanted token
  other_footer (inl framing) = rw (footer_is key.kind key.version (record { key = key.bytes; footer = unwrap_or wanted []; assertion = assertion_of demanded })) at framing
  other_footer (inr of_payload) = absurd (no_footer key.kind key.version _ of_payload.0 of_payload.2)

  abbrev may_differ : Blame
  may_differ = record nothing { other_footer = IsOtherFooter wanted token }

  -- why a token is refused under a key that reads it
  parser_refuses : (source : GenericParserError) → (¬ IsMemory source) → ((value : Data) → ¬ ParsesByKey key wanted demanded token value)
      → IsFirstFault Read (λ key. no_rule) token source → Refuses (parser_error_of source)
  parser_refuses (NotRead FooterInvalid) some none fault = record { none = none; fixed = tt; blames = other_footer fault }
  parser_refuses (NotRead source) some none fault =
      record { none = none; fixed = (token_plain source).0; blames = blames_so (within_all may_differ) (token_error_of source) (token_plain source).1 }
  parser_refuses (NoMemory source) some none fault = absurd (some tt)
  parser_refuses source some none fault = record { none = none; fixed = tt; blames = tt }

  module _ (reads : reads_tokens key.kind ≡ true) (bound : takes_assertion key.version ≡ false → is_some demanded ≡ false) where
    parsed_so : (value : Data) → IsParsed Read (λ key. no_rule) token value → ParsesByKey key wanted demanded token value
    parsed_so value parsed = record { reads = reads; bound = bound; is_parsed = parsed }

    parsed_gives : (answer : Result Value GenericParserError) → IsParseAnswer Read (λ key. no_rule) token answer
        → Gives Is Refuses (Fails nothing) (admitted (answered answer))
    parsed_gives (Ok value) is = record {
      given = (parsed_so (view value) is.parsed, λ other so. sym (is.complete other so.is_parsed));
      refused = tt;
    }
    parsed_gives (Err (NoMemory source)) is = record { given = tt; refused = inr (tt, tt) }
    parsed_gives (Err source) is = record {
      given = tt;
      refused = inl (parser_refuses source (λ memory. memory) (λ value so. is.complete value so.is_parsed) (elim is.fault [ inl memory ↦ absurd memory | inr fault ↦ fault ]));
    }

  other_type : reads_tokens key.kind ≡ false → Gives Is Refuses (Fails nothing) (admitted (Err (OfKey (OtherType key.kind))))
  other_type none = record {
    given = tt;
    refused = inl (record { none = λ value so. false≢true (sym none ∙ so.reads); fixed = tt; blames = tt });
  }

  no_assertion : takes_assertion key.version ≡ false → is_some demanded ≡ true → Gives Is Refuses (Fails nothing) (admitted (Err (OfKey NoAssertion)))
  no_assertion none given = record {
    given = tt;
    refused = inl (record { none = λ value so. false≢true (sym (so.bound none) ∙ given); fixed = tt; blames = tt });
  }

  pub key_gives : (answer : Result Value AdmitError)
      → IsUse OfKey (reads_tokens key.kind ≡ true) key.kind (takes_assertion key.version) (is_some demanded) (Admits None Read (λ key. no_rule) token) answer
      → Gives Is Refuses (Fails nothing) (admitted answer)
  key_gives answer used = by_reads (reads_tokens key.kind) refl
    where
      so : (other : Result Value AdmitError) → answer ≡ other → Gives Is Refuses (Fails nothing) (admitted other) → Gives Is Refuses (Fails nothing) (admitted answer)
      so other same gives = subst (λ (a : Result Value AdmitError). Gives Is Refuses (Fails nothing) (admitted a)) (sym same) gives

      by_answer : reads_tokens key.kind ≡ true → (takes_assertion key.version ≡ false → is_some demanded ≡ false) → Gives Is Refuses (Fails nothing) (admitted answer)
      by_answer reads bound =
          let admits = used.answer reads bound in
          so (answered admits.0) admits.1 (parsed_gives reads bound admits.0 (admits.2.answer (unlimited None (length token) refl)))

      by_given : reads_tokens key.kind ≡ true → takes_assertion key.version ≡ false → (given : Bool) → is_some demanded ≡ given → Gives Is Refuses (Fails nothing) (admitted answer)
      by_given reads none true is = so (Err (OfKey NoAssertion)) (used.unbound reads none is) (no_assertion none is)
      by_given reads none false is = by_answer reads (λ _. is)

      by_binds : reads_tokens key.kind ≡ true → (binds : Bool) → takes_assertion key.version ≡ binds → Gives Is Refuses (Fails nothing) (admitted answer)
      by_binds reads true is = by_answer reads (λ none. absurd (false≢true (sym none ∙ is)))
      by_binds reads false is = by_given reads is (is_some demanded) refl

      by_reads : (reads : Bool) → reads_tokens key.kind ≡ reads → Gives Is Refuses (Fails nothing) (admitted answer)
      by_reads true is = by_binds is (takes_assertion key.version) refl
      by_reads false is = so (Err (OfKey (OtherType key.kind))) (used.other (λ reads. false≢true (sym is ∙ reads))) (other_type is)
