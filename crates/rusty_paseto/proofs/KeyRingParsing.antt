-- What a ring answers for a token whose claims a parser checks.
use Rattle.std.proofs.Common.{◌≡◌, ◌⊎◌, inl, inr, ⊎_elim, ℕ, List, Bool, true, false, Option, None, Result, Ok, Err, String, Global, string_bytes, refl, sym, subst}
use Rattle.serde_json.specs.declared.value.Value.{Value}
use Rattle.rusty_paseto_generic.specs.Error.Parser.{IsMemory as IsMemoryOfParser}
use Rattle.rusty_paseto_generic.specs.Parsers.Parsing.{IsTextAnswer, IsTextFault, IsValueOf, assertion_in}
use Rattle.rusty_paseto_generic.specs.Parsers.Rules.{Rules}
use Rattle.rusty_paseto_generic.specs.Validator.{Verdict}
use Rattle.rusty_paseto_generic.specs.declared.error.GenericParserError.{GenericParserError}
use Rattle.rusty_paseto_generic.specs.declared.error.GenericParserError.TheVariants.{ClaimError, CipherError, PayloadJsonError, Memory as OutOfMemory}
use Rattle.rusty_paseto_core.specs.declared.ImplicitAssertion.{ImplicitAssertion}
use Rattle.rusty_paseto_parts.specs.declared.error.PasetoError.TheVariants.{IncorrectSize}
use Rattle.rusty_paseto.specs.KeyRing.{IsClaimsAnswer, IsFirstFault, IsFirstParsingFault, IsMemory, IsNoMemory, IsParsed, IsParsingAnswer, IsParsingAnswerWithin, IsRingAnswer, IsRingAnswerWithin, Keys, Readings, of_parser, of_ring}
use Rattle.rusty_paseto.specs.declared.key_ring.limits.Limits.{Limits}
use Rattle.rusty_paseto.specs.declared.error.KeyRingError.{KeyRingError}
use Rattle.rusty_paseto.specs.declared.error.KeyRingError.TheVariants.{Untrusted, NoFooter, NotAnObject, NoKeyId, UnknownKey, Token, Memory}
use Rattle.rusty_paseto.specs.declared.error.KeyRingParserError.{KeyRingParserError}
use Rattle.rusty_paseto.specs.declared.error.KeyRingParserError.TheVariants.{Ring, Parser}

-- the assertion that a token is bound to in a version that has one
pub bound_assertion : (binds : Bool) (given bound : Option ImplicitAssertion) → (binds ≡ true → bound ≡ given) → (binds ≡ false → bound ≡ None)
    → bound ≡ assertion_in binds given
bound_assertion true given bound own none = own refl
bound_assertion false given bound own none = none refl

-- out of memory stays so, and no other error becomes it
of_ring-cases : (error : KeyRingError) → (IsMemory error × IsNoMemory (of_ring error)) ⊎ ((¬ IsMemory error) × (of_ring error ≡ Ring error))
of_ring-cases (Untrusted source) = inr (λ memory. memory, refl)
of_ring-cases NoFooter = inr (λ memory. memory, refl)
of_ring-cases NotAnObject = inr (λ memory. memory, refl)
of_ring-cases NoKeyId = inr (λ memory. memory, refl)
of_ring-cases (UnknownKey id) = inr (λ memory. memory, refl)
of_ring-cases (Token source) = inr (λ memory. memory, refl)
of_ring-cases (Memory refused) = inl (tt, tt)

of_parser-cases : (error : GenericParserError) → (IsMemoryOfParser error × IsNoMemory (of_parser error)) ⊎ ((¬ IsMemoryOfParser error) × (of_parser error ≡ Parser error))
of_parser-cases (ClaimError source) = inr (λ memory. memory, refl)
of_parser-cases (CipherError source) = inr (λ memory. memory, refl)
of_parser-cases (PayloadJsonError source) = inr (λ memory. memory, refl)
of_parser-cases (OutOfMemory refused) = inl (tt, tt)

module _ (keys : Keys (List ℕ)) (reading : Readings) (rules : Rules Verdict) (token : List ℕ) where
  ring_fault : (error : KeyRingError) → IsMemory error ⊎ IsFirstFault keys reading token error
      → IsNoMemory (of_ring error) ⊎ IsFirstParsingFault keys reading rules token (of_ring error)
  ring_fault error (inl memory) = ⊎_elim (λ is. inl is.1) (λ other. absurd (other.0 memory)) (of_ring-cases error)
  ring_fault error (inr fault) = ⊎_elim (λ is. inl is.1) (λ other. rw other.1 (inr fault)) (of_ring-cases error)

  -- the ring opened no token
  pub unopened : (error : KeyRingError) → IsRingAnswer keys reading token (Err error) → IsParsingAnswer keys reading rules token (Err (of_ring error))
  unopened error answer = record {
    parsed = tt;
    complete = λ id value is.
        ⊎_elim (λ memory. memory.1) (λ other. absurd (other.0 (answer.complete id is.text is.is_opened))) (of_ring-cases error);
    count = λ other. let same = answer.count other in let known : error ≡ Untrusted IncorrectSize = cc same in rw known refl;
    fault = ring_fault error answer.fault;
  }

  module _ (id text : String Global) (opened : IsRingAnswer keys reading token (Ok (id, text))) where
    -- a value as which the token is parsed is that of this text
    of_text : (other : List ℕ) (value : _) → IsParsed keys reading rules token other value → IsValueOf rules (string_bytes text) value
    of_text other value is = subst (λ given. IsValueOf rules given value) (sym (opened.complete other is.text is.is_opened).1) is.is_value

    text_fault : (error : GenericParserError) → IsMemoryOfParser error ⊎ IsTextFault rules (string_bytes text) error
        → IsNoMemory (of_parser error) ⊎ IsFirstParsingFault keys reading rules token (of_parser error)
    text_fault error (inl memory) = ⊎_elim (λ is. inl is.1) (λ other. absurd (other.0 memory)) (of_parser-cases error)
    text_fault error (inr fault) =
        ⊎_elim (λ is. inl is.1) (λ other. rw other.1 (inr (string_bytes id, string_bytes text, opened.opened, fault))) (of_parser-cases error)

    -- the text that was opened is refused
    pub refused : (error : GenericParserError) → IsTextAnswer rules (string_bytes text) (Err error)
        → IsParsingAnswer keys reading rules token (Err (of_parser error))
    refused error answer = record {
      parsed = tt;
      complete = λ other value is.
          ⊎_elim (λ memory. memory.1) (λ own. absurd (own.0 (answer.complete value (of_text other value is)))) (of_parser-cases error);
      count = λ other. let none = opened.count other in absurd (cc none);
      fault = text_fault error answer.fault;
    }

    -- it is read as a value
    pub read_as : (value : Value) → IsTextAnswer rules (string_bytes text) (Ok value) → IsParsingAnswer keys reading rules token (Ok (id, value))
    read_as value answer = record {
      parsed = record { text = string_bytes text; is_opened = opened.opened; is_value = answer.value };
      complete = λ other found is. ((opened.complete other is.text is.is_opened).0, answer.complete found (of_text other found is));
      count = λ other. let none = opened.count other in absurd (cc none);
      fault = tt;
    }

  -- the answer for the claims of what the ring opened
  pub claims_answer : (opened : Result (String Global × String Global) KeyRingError) (result : Result (String Global × Value) KeyRingParserError)
      → IsRingAnswer keys reading token opened → IsClaimsAnswer rules opened result → IsParsingAnswer keys reading rules token result
  claims_answer (Err error) result answer is = rw is (unopened error answer)
  claims_answer (Ok opened) (Ok found) answer is =
      subst (λ id. IsParsingAnswer keys reading rules token (Ok (id, found.1))) (sym is.0) (read_as opened.0 opened.1 answer found.1 is.1)
  claims_answer (Ok opened) (Err error) answer is = rw is.1 (refused opened.0 opened.1 answer is.0 is.2)

  -- and where there are limits
  pub claims_within : (longest : Option ℕ) (limits : Limits) (opened : Result (String Global × String Global) KeyRingError)
      (result : Result (String Global × Value) KeyRingParserError) → IsRingAnswerWithin longest limits keys reading token opened
      → IsClaimsAnswer rules opened result → IsParsingAnswerWithin longest limits keys reading rules token result
  claims_within longest limits opened result answer is = record {
    long = λ so. rw (answer.long so) at is;
    answer = λ so. claims_answer opened result (answer.answer so) is;
  }
