-- Reading, for every kind of token: what is read is framed, a token is read as one text, one that is read
-- has no fault, and the answers of the payload and of the framing are answers for the token.
use Rattle.std.proofs.Common.{◌≡◌, ℕ, List, subst, sym, inl, inr, ◌⊎◌, Result, Ok, Err, IfOk, IfErr, String, Global}
use Rattle.std.specs.Prelude.{IsErrAnd}
use Rattle.std.specs.String.{string_bytes}
use Rattle.rusty_paseto_parts.specs.Error.{IsMemory}
use Rattle.rusty_paseto_parts.specs.Section.{HasCount, sections}
use Rattle.rusty_paseto_parts.specs.declared.error.PasetoError.{PasetoError}
use Rattle.rusty_paseto_parts.specs.declared.error.PasetoError.TheVariants.{IncorrectSize}
use Rattle.rusty_paseto_primitives.specs.Bytes.{IsBytes}
use Rattle.rusty_paseto_core.specs.Framing.{IsHeader}
use Rattle.rusty_paseto_core.specs.Reading.{CarriesText, IsAnswer, IsFault, IsFramed, IsFramingFault, IsRead, Reading, header_of}
use Rattle.rusty_paseto_core.proofs.Framed.{framing-IsFramed, IsFramed-framing, IsFramed-payload, IsFramed-fault}

-- what each kind of payload has: bytes alone, one text at most, and no fault where it has one
pub record IsLawfulReading (reading : Reading) : Type 0 where
  pub is_header : IsHeader reading.version reading.purpose (header_of reading)
  pub footer_bytes : IsBytes reading.footer
  pub payload_bytes : (payload text : List ℕ) → CarriesText reading payload text → IsBytes payload
  pub one_text : (payload first second : List ℕ) → CarriesText reading payload first → CarriesText reading payload second
      → first ≡ second
  pub no_fault : (payload text : List ℕ) (error : PasetoError) → CarriesText reading payload text
      → reading.IsPayloadFault payload error → ⊥

module _ (reading : Reading) (law : IsLawfulReading reading) where
  -- the framing of a token has no fault, and its payload is this one
  abbrev pub IsFramedAs : List ℕ → List ℕ → Type 0
  IsFramedAs token payload = IsFramed reading.version reading.purpose reading.footer token payload

  -- a token that is read is framed
  pub IsRead-IsFramed : (token text : List ℕ) (read : IsRead reading token text) → IsFramedAs token read.payload
  IsRead-IsFramed token text read =
      subst (λ t. IsFramedAs t read.payload) (sym read.is_framing)
      (framing-IsFramed reading.version reading.purpose (header_of reading) read.payload read.written reading.footer law.is_header
      (law.payload_bytes read.payload text read.carried) law.footer_bytes read.form)

  -- each framed payload of a token that is read carries the text
  pub IsRead-carries : (token payload text : List ℕ) → IsRead reading token text → IsFramedAs token payload
      → CarriesText reading payload text
  IsRead-carries token payload text read framed =
      let same : read.payload ≡ payload =
      IsFramed-payload reading.version reading.purpose reading.footer token read.payload payload (IsRead-IsFramed token text read) framed in
      subst (λ p. CarriesText reading p text) same read.carried

  -- a framed token is read as the text that its payload carries
  pub IsFramed-IsRead : (token payload text : List ℕ) → IsFramedAs token payload → CarriesText reading payload text
      → IsRead reading token text
  IsFramed-IsRead token payload text framed carried =
      let form = IsFramed-framing reading.version reading.purpose (header_of reading) reading.footer token payload law.is_header.text framed in
      record { payload = payload; carried = carried; written = form.0; form = form.1; is_framing = form.2 }

  -- a token is read as one text
  pub IsRead-text : (token first second : List ℕ) → IsRead reading token first → IsRead reading token second → first ≡ second
  IsRead-text token first second a b =
      law.one_text a.payload first second a.carried (IsRead-carries token a.payload second b (IsRead-IsFramed token first a))

  -- a token that is read has no fault
  pub IsRead-fault : (token text : List ℕ) (error : PasetoError) → IsRead reading token text → IsFault reading token error → ⊥
  IsRead-fault token text error read (inl fault) =
      IsFramed-fault reading.version reading.purpose reading.footer token read.payload error (IsRead-IsFramed token text read) fault
  IsRead-fault token text error read (inr fault) =
      law.no_fault fault.0 text error (IsRead-carries token fault.0 text read fault.1) fault.2

  complete_err : (token text : List ℕ) (error : PasetoError) → IsMemory error ⊎ IsFault reading token error
      → IsRead reading token text → IsMemory error
  complete_err token text error (inl memory) read = memory
  complete_err token text error (inr fault) read = absurd (IsRead-fault token text error read fault)

  err_answer : (token : List ℕ) (error : PasetoError) → IsMemory error ⊎ IsFault reading token error
      → (¬ HasCount (sections token) → error ≡ IncorrectSize) → IsAnswer reading token (Err error)
  err_answer token error fault count = record {
    read = tt;
    complete = λ text read. complete_err token text error fault read;
    count = λ none. let same : error ≡ IncorrectSize = count none in cc;
    fault = fault;
  }

  payload_fault : (token payload : List ℕ) (error : PasetoError) → IsFramedAs token payload
      → IsMemory error ⊎ reading.IsPayloadFault payload error → IsMemory error ⊎ IsFault reading token error
  payload_fault token payload error framed (inl memory) = inl memory
  payload_fault token payload error framed (inr fault) = inr (inr (payload, framed, fault))

  framing_fault : (token : List ℕ) (error : PasetoError)
      → IsMemory error ⊎ IsFramingFault reading.version reading.purpose reading.footer token error
      → IsMemory error ⊎ IsFault reading token error
  framing_fault token error (inl memory) = inl memory
  framing_fault token error (inr fault) = inr (inl fault)

  answer_of : (token payload : List ℕ) (answer : Result (String Global) PasetoError) → IsFramedAs token payload
      → IfOk answer (λ found. CarriesText reading payload (string_bytes found))
      → IfErr answer (λ error. IsMemory error ⊎ reading.IsPayloadFault payload error) → IsAnswer reading token answer
  answer_of token payload (Ok found) framed carried fault =
      let read = IsFramed-IsRead token payload (string_bytes found) framed carried in record {
        read = read;
        complete = λ text own. IsRead-text token (string_bytes found) text read own;
        count = λ none. absurd (none framed.count);
        fault = tt;
      }
  answer_of token payload (Err error) framed carried fault =
      err_answer token error (payload_fault token payload error framed fault) (λ none. absurd (none framed.count))

  refusal_of : (token : List ℕ) (error : PasetoError) (answer : Result (String Global) PasetoError) → IsErrAnd answer (λ e. e ≡ error)
      → IsMemory error ⊎ IsFramingFault reading.version reading.purpose reading.footer token error
      → (¬ HasCount (sections token) → error ≡ IncorrectSize) → IsAnswer reading token answer
  refusal_of token error (Ok found) same fault count = absurd same
  refusal_of token error (Err e) same fault count = rw same (err_answer token error (framing_fault token error fault) count)

  module _ (version footer token : List ℕ) (own : reading.version ≡ version) (same : footer ≡ reading.footer) where
    -- what is answered of a framed payload is the answer for the token
    pub answered : (payload : List ℕ) → IsFramed version reading.purpose footer token payload
        → (answer : Result (String Global) PasetoError)
        → (IsBytes payload → IfOk answer (λ found. CarriesText reading payload (string_bytes found)))
        → IfErr answer (λ error. IsMemory error ⊎ reading.IsPayloadFault payload error) → IsAnswer reading token answer
    answered payload framed answer carried fault =
        let framed_as : IsFramedAs token payload = rw (own, ← same) framed in
        answer_of token payload answer framed_as (carried framed.bytes) fault

    -- a fault of the framing that is handed on is the answer for the token
    pub refused : (error : PasetoError) (answer : Result (String Global) PasetoError) → IsErrAnd answer (λ e. e ≡ error)
        → IsMemory error ⊎ IsFramingFault version reading.purpose footer token error
        → (¬ HasCount (sections token) → error ≡ IncorrectSize) → IsAnswer reading token answer
    refused error answer handed fault count =
        let fault_as : IsMemory error ⊎ IsFramingFault reading.version reading.purpose reading.footer token error = rw (own, ← same) fault in
        refusal_of token error answer handed fault_as count
