-- The laws of builders and parsers.
use Rattle.std.proofs.Common.{◌⊎◌, inl, inr, ℕ, List, Result, Ok, Err, IfOk, IfErr, refl}
use Rattle.serde_json.specs.Data.{Members, object}
use Rattle.serde_json.specs.View.{view}
use Rattle.serde_json.specs.declared.value.Value.{Value}
use Rattle.rusty_paseto_core.specs.Framing.{IsHeader}
use Rattle.rusty_paseto_core.specs.Local.{Design, IsLawful}
use Rattle.rusty_paseto_core.specs.Public.{PublicDesign, header, public}
use Rattle.rusty_paseto_core.specs.Public.Scheme.{Refusal, Validity}
use Rattle.rusty_paseto_core.specs.Context.{Binding}
use Rattle.rusty_paseto_core.specs.Local.Opening.{opening}
use Rattle.rusty_paseto_core.specs.Reading.{IsRead, Reading}
use Rattle.rusty_paseto_core.specs.declared.PasetoError.TheVariants.{TooLong}
use Rattle.rusty_paseto_core.proofs.Opened.{opening-lawful}
use Rattle.rusty_paseto_core.proofs.ReadingLaws.{IsLawfulReading, IsRead-fault, IsRead-text}
use Rattle.rusty_paseto_core.proofs.SealingLaws.{boxed_sealings_open, sealings_open, signings_verify}
use Rattle.rusty_paseto_core.proofs.Unboxed.{box_opening-lawful}
use Rattle.rusty_paseto_core.proofs.Verified.{verification-lawful}
use Rattle.rusty_paseto_generic.specs.Builders.Claims.{payload}
use Rattle.rusty_paseto_generic.specs.Error.Parser.{IsMemory}
use Rattle.rusty_paseto_generic.specs.Laws.{AnswersText, BoxedAnswersText, BoxedClaimsParse, IsWritten, OpenedAnswersText, OpenedUnlimited, SealedClaimsParse, SignedClaimsParse, VerifiedAnswersText, VerifiedUnlimited}
use Rattle.rusty_paseto_generic.specs.Parsers.Parsing.{IsFirstFault, IsParseAnswer, IsParsed, IsTextFault, IsValueOf}
use Rattle.rusty_paseto_generic.specs.Parsers.Rules.{Rules}
use Rattle.rusty_paseto_generic.specs.Validator.{Verdict}
use Rattle.rusty_paseto_generic.specs.declared.error.GenericParserError.{GenericParserError}
use Rattle.rusty_paseto_generic.specs.declared.error.GenericParserError.TheVariants.{ClaimError, CipherError, PayloadJsonError, Memory}

-- ---- what a builder wrote

-- the text of claims is read as them
pub text_value : (claims : Members) (rules : Rules Verdict) → IsWritten claims rules → IsValueOf rules (payload claims) (object claims)
text_value claims rules written = record {
  is_read = record { is_json = written.read_back.reads written.nests; whole = written.read_back.whole };
  passes = written.passes;
}

parsed_as : (reading : Reading) (claims : Members) (rules : Rules Verdict) (token : List ℕ) → IsWritten claims rules
    → IsRead reading token (payload claims) → IsParsed reading rules token (object claims)
parsed_as reading claims rules token written read = record { text = payload claims; is_read = read; is_value = text_value claims rules written }

pub sealed_claims_parse : (design : Design) → IsLawful design → SealedClaimsParse design
sealed_claims_parse design law claims rules binding given written is nonce form =
    parsed_as _ claims rules _ is (sealings_open design law binding given (payload claims) written nonce is.is_text form)

pub boxed_claims_parse : BoxedClaimsParse
boxed_claims_parse box claims rules binding given written token is form sealed =
    parsed_as _ claims rules token is (boxed_sealings_open box binding given (payload claims) written token is.is_text form sealed)

pub signed_claims_parse : (valid : Validity) (refused : Refusal) (design : PublicDesign) → SignedClaimsParse valid refused design
signed_claims_parse valid refused design claims rules binding written token is form signed =
    parsed_as _ claims rules token is (signings_verify valid refused design binding (payload claims) token written is.is_text form signed)

-- ---- the answer for a text

module _ (reading : Reading) (law : IsLawfulReading reading) (rules : Rules Verdict) (token text : List ℕ) (read : IsRead reading token text) where
  value_of : (result : Result Value GenericParserError) → IfOk result (λ value. IsParsed reading rules token (view value))
      → IfOk result (λ value. IsValueOf rules text (view value))
  value_of (Ok found) parsed = rw (IsRead-text reading law token text parsed.text read parsed.is_read) parsed.is_value
  value_of (Err error) parsed = tt

  fault_of_text : (other : List ℕ) (error : GenericParserError) → IsRead reading token other → IsTextFault rules other error → IsTextFault rules text error
  fault_of_text other error own fault = rw (IsRead-text reading law token text other read own) fault

  first_fault : (error : GenericParserError) → IsMemory error ⊎ IsFirstFault reading rules token error → IsMemory error ⊎ IsTextFault rules text error
  first_fault error (inl memory) = inl memory
  first_fault (CipherError source) (inr fault) = absurd (IsRead-fault reading law token text source read fault)
  first_fault (ClaimError source) (inr fault) = inr (fault_of_text fault.0 (ClaimError source) fault.1 fault.2)
  first_fault (PayloadJsonError source) (inr fault) = inr (fault_of_text fault.0 (PayloadJsonError source) fault.1 fault.2)
  first_fault (Memory refused) (inr fault) = inl tt

  fault_in_text : (result : Result Value GenericParserError) → IfErr result (λ error. IsMemory error ⊎ IsFirstFault reading rules token error)
      → IfErr result (λ error. IsMemory error ⊎ IsTextFault rules text error)
  fault_in_text (Ok found) fault = tt
  fault_in_text (Err error) fault = first_fault error fault

answers_text : (reading : Reading) → IsLawfulReading reading → AnswersText reading
answers_text reading law rules token text result read answer = record {
  value = value_of reading law rules token text read result answer.parsed;
  complete = λ value is. answer.complete value (record { text = text; is_read = read; is_value = is });
  fault = fault_in_text reading law rules token text read result answer.fault;
}

pub opened_answers_text : (design : Design) → IsLawful design → OpenedAnswersText design
opened_answers_text design law binding bytes = answers_text _ (opening-lawful design law binding bytes)

pub boxed_answers_text : BoxedAnswersText
boxed_answers_text box law binding size key footer = answers_text _ (box_opening-lawful box law binding size key footer)

pub verified_answers_text : (valid : Validity) (refused : Refusal) (design : PublicDesign)
    → IsHeader design.version public (header design) → VerifiedAnswersText valid refused design
verified_answers_text valid refused design is binding bytes = answers_text _ (verification-lawful valid refused design binding is bytes)

-- ---- without a limit

-- local tokens: no fault of the framing is that the token is too long, and none of a sealed payload
never_too_long : (design : Design) (binding : Binding) (rules : Rules Verdict) (token : List ℕ)
    → IsParseAnswer (opening design binding) rules token (Err (CipherError TooLong)) → ⊥
never_too_long design binding rules token answer = elim answer.fault [
  | inl memory ↦ memory
  | inr fault ↦ elim fault [ inl framing ↦ framing | inr payload ↦ payload.2 ]
]

pub opened_unlimited : (design : Design) → OpenedUnlimited design
opened_unlimited design binding =
    (λ rules token result within. within.answer refl, λ rules token within. never_too_long design binding rules token (within.answer refl))

pub verified_unlimited : (valid : Validity) (refused : Refusal) (design : PublicDesign) → VerifiedUnlimited valid refused design
verified_unlimited valid refused design binding rules token result within = within.answer refl
