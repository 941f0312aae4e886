-- Laws of builders and parsers.
use Rattle.std.specs.Prelude.{◌≡◌, ◌≤◌, ℕ, Bool, List, Some, None, Result, Err, length}
use Rattle.serde_json.specs.Data.{Members, members_depth, object}
use Rattle.serde_json.specs.declared.value.Value.{Value}
use Rattle.rusty_paseto_core.specs.Context.{Binding}
use Rattle.rusty_paseto_core.specs.Laws.{IsBytes, IsText}
use Rattle.rusty_paseto_core.specs.Local.{Design, IsNonce}
use Rattle.rusty_paseto_core.specs.Local.Boxed.{box_opening, boxed_sealing, token_nonce}
use Rattle.rusty_paseto_core.specs.Local.Opening.{opening}
use Rattle.rusty_paseto_core.specs.Local.SealedBox.{BoxSealing, IsLawfulBox}
use Rattle.rusty_paseto_core.specs.Local.Sealing.{sealing}
use Rattle.rusty_paseto_core.specs.Public.{PublicDesign}
use Rattle.rusty_paseto_core.specs.Public.Scheme.{Refusal, Validity}
use Rattle.rusty_paseto_core.specs.Public.Signing.{IsSigning}
use Rattle.rusty_paseto_core.specs.Public.Verifying.{verification}
use Rattle.rusty_paseto_core.specs.Reading.{IsForm, IsRead, Reading}
use Rattle.rusty_paseto_core.specs.declared.PasetoError.TheVariants.{TooLong}
use Rattle.rusty_paseto_generic.specs.Builders.Claims.{IsReadBack, payload}
use Rattle.rusty_paseto_generic.specs.Parsers.Parsing.{IsAnswerWithin, IsParseAnswer, IsParsed, IsTextAnswer}
use Rattle.rusty_paseto_generic.specs.Parsers.Rules.{Rules}
use Rattle.rusty_paseto_generic.specs.Parsers.Verdicts.{PassesAll}
use Rattle.rusty_paseto_generic.specs.Validator.{Verdict}
use Rattle.rusty_paseto_generic.specs.declared.error.GenericParserError.{GenericParserError}
use Rattle.rusty_paseto_generic.specs.declared.error.GenericParserError.TheVariants.{CipherError}

-- ---- what a builder wrote is read back as its claims

-- what was written of claims, nested at most 126 deep, that pass what is checked
pub record IsWritten (claims : Members) (rules : Rules Verdict) : Type 0 where
  pub read_back : IsReadBack claims
  pub nests : members_depth claims ≤ 126
  pub is_text : IsText (payload claims)
  pub passes : PassesAll rules (object claims)

-- the sealing of claims with a given nonce is parsed as the object of them, in each form that the footer allows
abbrev pub SealedClaimsParse : Design → Type 0
SealedClaimsParse design = (claims : Members) (rules : Rules Verdict) (binding : Binding) (given : List ℕ) (written : Bool)
    → IsWritten claims rules → IsNonce given → IsForm written binding.footer
    → IsParsed (opening design binding) rules (sealing design binding (design.token_nonce given (payload claims)) written (payload claims)) (object claims)

-- so is what a box sealed
abbrev pub BoxedClaimsParse : Type 0
BoxedClaimsParse = (box : BoxSealing) (claims : Members) (rules : Rules Verdict) (binding : Binding) (given : List ℕ) (written : Bool) (token : List ℕ)
    → IsWritten claims rules → IsForm written binding.footer
    → boxed_sealing box binding (token_nonce given (payload claims)) written (payload claims) ≡ Some token
    → IsParsed (box_opening box binding) rules token (object claims)

-- and what was signed, under the public key of the private key
abbrev pub SignedClaimsParse : Validity → Refusal → PublicDesign → Type 0
SignedClaimsParse valid refused design = (claims : Members) (rules : Rules Verdict) (binding : Binding) (written : Bool) (token : List ℕ)
    → IsWritten claims rules → IsForm written binding.footer → IsSigning valid design binding written (payload claims) token
    → IsParsed (verification valid refused design binding) rules token (object claims)

-- ---- the answer depends on the text and the checks alone

-- what is answered for a token that is read as a text is the answer for that text, of which the token, its kind, its
-- key, its footer and its assertion are no part: tokens that are read as one text have one answer
abbrev pub AnswersText : Reading → Type 0
AnswersText reading = (rules : Rules Verdict) (token text : List ℕ) (result : Result Value GenericParserError)
    → IsRead reading token text → IsParseAnswer reading rules token result → IsTextAnswer rules text result

abbrev pub OpenedAnswersText : Design → Type 0
OpenedAnswersText design = (binding : Binding) → IsBytes binding.footer → AnswersText (opening design binding)

abbrev pub BoxedAnswersText : Type 0
BoxedAnswersText = (box : BoxSealing) → IsLawfulBox box → (binding : Binding) → length binding.key ≡ 32 → IsBytes binding.key
    → IsBytes binding.footer → AnswersText (box_opening box binding)

abbrev pub VerifiedAnswersText : Validity → Refusal → PublicDesign → Type 0
VerifiedAnswersText valid refused design = (binding : Binding) → IsBytes binding.footer → AnswersText (verification valid refused design binding)

-- ---- without a limit, nothing is too long

-- a parser with no limit answers what parsing the token answers
abbrev pub AnswersUnlimited : Reading → Type 0
AnswersUnlimited reading = (rules : Rules Verdict) (token : List ℕ) (result : Result Value GenericParserError)
    → IsAnswerWithin None reading rules token result → IsParseAnswer reading rules token result

-- where it opens tokens itself, that is never that one is too long
abbrev pub OpenedUnlimited : Design → Type 0
OpenedUnlimited design = (binding : Binding) → AnswersUnlimited (opening design binding)
    × ((rules : Rules Verdict) (token : List ℕ) → ¬ IsAnswerWithin None (opening design binding) rules token (Err (CipherError TooLong)))

abbrev pub VerifiedUnlimited : Validity → Refusal → PublicDesign → Type 0
VerifiedUnlimited valid refused design = (binding : Binding) → AnswersUnlimited (verification valid refused design binding)
