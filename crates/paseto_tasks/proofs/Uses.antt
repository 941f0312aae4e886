-- What a key answered, in the words of the program.
use Rattle.std.proofs.Common.{◌≡◌, ◌≢◌, ◌⊎◌, ℕ, List, false, Option, None, is_some, Result, Ok, Err, IfOk, IfErr, IsErrAnd, String, Global, string_bytes, inl, inr, refl, sym, ap, subst, ◌∙◌}
use Rattle.rusty_paseto_parts.specs.Error.{IsMemory}
use Rattle.rusty_paseto_parts.specs.declared.error.PasetoError.{PasetoError}
use Rattle.rusty_paseto_parts.specs.declared.error.PasetoError.TheVariants.{Memory as NoMemory}
use Rattle.rusty_paseto_parts.specs.declared.texts.implicit_assertion.ImplicitAssertion.{ImplicitAssertion}
use Rattle.rusty_paseto_core.specs.Reading.{IsAnswer, IsRead}
use Rattle.paseto_keys.specs.AnyKey.{KeyParts}
use Rattle.paseto_keys.specs.Drawing.{IsDrawFault}
use Rattle.paseto_keys.specs.Error.{key_error_of}
use Rattle.paseto_keys.specs.Tokens.{Lifts, lifted}
use Rattle.paseto_keys.specs.Writing.{IsWriteAnswer, drawn_length}
use Rattle.paseto_keys.specs.declared.error.KeyError.{KeyError}
use Rattle.paseto_keys.specs.declared.error.KeyError.TheVariants.{Memory as NoUseMemory}
use Rattle.paseto_tasks.specs.declared.arguments.Options.{Options}
use Rattle.paseto_tasks.specs.declared.error.ProgramError.{ProgramError}
use Rattle.paseto_tasks.specs.Error.{Blame, Fails, IsTokenError, nothing, use_error_of}
use Rattle.paseto_tasks.specs.Input.{OfInput, reading}
use Rattle.paseto_tasks.specs.Output.{Makes}
use Rattle.paseto_tasks.specs.TokenKind.{kind_read_by}
use Rattle.paseto_tasks.proofs.Blames.{fails_so}
use Rattle.paseto_tasks.proofs.Inputs.{of_more}
use Rattle.paseto_tasks.specs.Tokens.{DeclinesText, RefusesReading, RefusesText, reading_with, writing_with}

-- ---- keys

-- an assertion that is none is not given
pub not_given : (assertion : Option ImplicitAssertion) → assertion ≡ None → is_some assertion ≡ false
not_given assertion none = ap (λ (a : Option ImplicitAssertion). is_some a) none

-- ---- reading

module _ (key : KeyParts) (options : Options) (token : List ℕ) where
  unread : (source : PasetoError) (error : ProgramError) → IsAnswer (reading_with key options) token (Err source)
      → IsTokenError token (kind_read_by key.version key.kind) (key_error_of source) error
      → RefusesReading key options token error ⊎ Fails nothing error
  unread (NoMemory source) error answers told = inr (subst (Fails nothing) (sym told) (tt, tt))
  unread source error answers told = inl (record {
    source = source;
    fault = elim answers.fault [ inl memory ↦ absurd memory | inr fault ↦ fault ];
    unread = λ text read. answers.complete text read;
    told = told;
  })

  was_read : (answer : Result (String Global) PasetoError) (text : String Global) → IsAnswer (reading_with key options) token answer → lifted answer ≡ Ok text
      → IsRead (reading_with key options) token (string_bytes text)
  was_read (Ok found) text answers is = let same : found ≡ text = cc in rw (sym same) answers.read
  was_read (Err source) text answers is = absurd (cc)

  not_read : (answer : Result (String Global) PasetoError) (error : ProgramError) → IsAnswer (reading_with key options) token answer
      → IsErrAnd (lifted answer) (λ source. IsTokenError token (kind_read_by key.version key.kind) source error)
      → RefusesReading key options token error ⊎ Fails nothing error
  not_read (Ok found) error answers told = absurd told
  not_read (Err source) error answers told = unread source error answers told

  -- the text of a token, or why there is none
  pub read_makes : (answer : Result (String Global) KeyError) (made : Result (String Global) ProgramError)
      → Lifts (IsAnswer (reading_with key options) token) answer → IfOk made (λ text. answer ≡ Ok text)
      → IfErr made (λ error. IsErrAnd answer (λ source. IsTokenError token (kind_read_by key.version key.kind) source error))
      → Makes (IsRead (reading_with key options) token) (RefusesReading key options token) (Fails nothing) made
  read_makes answer (Ok text) lifts is told = record { printed = was_read lifts.0 text lifts.2 (sym lifts.1 ∙ is); refused = tt }
  read_makes answer (Err error) lifts is told = record { printed = tt; refused = not_read lifts.0 error lifts.2 (rw lifts.1 at told) }

-- ---- writing

-- why a token was not written
module _ (key : KeyParts) (options : Options) (IsDrawn : ℕ → List ℕ → Type 0) (drawn text : List ℕ) (is_drawn : IsDrawn (drawn_length key.kind key.version) drawn)
    (blame : Blame) where
  declined_of : (source : PasetoError) → IsMemory source ⊎ (writing_with key options drawn).Declines (is_some options.footer) text source
      → DeclinesText key options IsDrawn text (use_error_of (key_error_of source)) ⊎ Fails blame (use_error_of (key_error_of source))
  declined_of (NoMemory source) h = inr (tt, tt)
  declined_of source (inl memory) = absurd memory
  declined_of source (inr declined) = inl (record { drawn = drawn; source = source; is_drawn = is_drawn; declined = declined; told = refl })

  pub not_written : (error : KeyError) → Lifts (IsWriteAnswer (writing_with key options drawn) (is_some options.footer) text) (Err error)
      → DeclinesText key options IsDrawn text (use_error_of error) ⊎ Fails blame (use_error_of error)
  not_written error lifts = by_answer lifts.0 lifts.1 lifts.2
    where
      by_answer : (answer : Result (String Global) PasetoError) → Err error ≡ lifted answer
          → IsWriteAnswer (writing_with key options drawn) (is_some options.footer) text answer
          → DeclinesText key options IsDrawn text (use_error_of error) ⊎ Fails blame (use_error_of error)
      by_answer (Ok token) is answers = absurd (cc)
      by_answer (Err source) is answers =
          let same : error ≡ key_error_of source = cc in
          subst (λ (e : KeyError). DeclinesText key options IsDrawn text (use_error_of e) ⊎ Fails blame (use_error_of e)) (sym same) (declined_of source answers.declined)

-- bytes that are not drawn
pub draw_fails : (Failure : Type 0) (count : ℕ) (error : KeyError) → IsDrawFault Failure count error
    → Fails (record reading { no_bytes = (count ≢ 0) × Failure }) (use_error_of error)
draw_fails Failure count (NoUseMemory source) fault = (tt, tt)
draw_fails Failure count error (inl memory) = absurd memory
draw_fails Failure count error (inr random) =
    subst (λ (e : KeyError). Fails (record reading { no_bytes = (count ≢ 0) × Failure }) (use_error_of e)) (sym random.0) (tt, (random.2, random.1))

-- a read that failed, where bytes might have been drawn
pub fails_drawing : {X : Type 0} (Undrawn : Type 0) (error : ProgramError) → X ⊎ Fails reading error → X ⊎ Fails (record reading { no_bytes = Undrawn }) error
fails_drawing Undrawn error (inl is) = inl is
fails_drawing Undrawn error (inr fails) = inr (fails_so (record { bytes = λ h. absurd h; moment = λ h. h; long = λ h. h; footer = λ h. h; stream = λ h. h }) error fails)

-- a text that has no token
pub text_unmade : (Prints : List ℕ → Type 0) (key : KeyParts) (options : Options) (IsDrawn : ℕ → List ℕ → Type 0) (known : Option (List ℕ)) (drawn text : List ℕ)
    (blame : Blame) (error : KeyError) → IsDrawn (drawn_length key.kind key.version) drawn → OfInput known (λ bytes. bytes ≡ text)
    → Lifts (IsWriteAnswer (writing_with key options drawn) (is_some options.footer) text) (Err error)
    → Makes Prints (λ refusal. OfInput known (λ bytes. RefusesText key options IsDrawn bytes refusal)) (Fails blame) (Err (use_error_of error))
text_unmade Prints key options IsDrawn known drawn text blame error is_drawn is lifts = record {
  printed = tt;
  refused = elim (not_written key options IsDrawn drawn text is_drawn blame error lifts) [
    | inl declined ↦ inl (of_more known (λ bytes. bytes ≡ text) (λ bytes. RefusesText key options IsDrawn bytes (use_error_of error)) (λ bytes same. rw same (inr declined)) is)
    | inr fails ↦ inr fails
  ];
}
