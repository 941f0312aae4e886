-- What a call answers for a token that a key reads or writes.
use Rattle.std.proofs.Common.{◌≡◌, ◌∙◌, ◌⊎◌, inl, inr, ℕ, Bool, List, length, Result, Ok, Err, String, Global, string_bytes, refl, ap}
use Rattle.rusty_paseto_parts.specs.Error.{IsMemory}
use Rattle.rusty_paseto_parts.specs.declared.error.PasetoError.{PasetoError}
use Rattle.rusty_paseto_parts.specs.declared.error.PasetoError.TheVariants as Token
use Rattle.rusty_paseto_parts.specs.Section.{sections}
use Rattle.rusty_paseto_parts.specs.UntrustedToken.{IsTokenFooterFault}
use Rattle.rusty_paseto_core.specs.Reading.{IsAnswer, IsRead, Reading}
use Rattle.paseto_keys.specs.Error.{key_error_of}
use Rattle.paseto_keys.specs.Tokens.{Reads, Writes, lifted}
use Rattle.paseto_keys.specs.Writing.{IsWriteAnswer, Writing}
use Rattle.paseto_keys.specs.declared.error.KeyError.{KeyError}
use Rattle.paseto_calls.specs.Refusal.{key_refusal, token_refusal}
use Rattle.paseto_keys.specs.Reading.{reading_by}
use Rattle.paseto_calls.specs.Arguments.{has_bytes}
use Rattle.paseto_calls.specs.HeldKey.{named_by}
use Rattle.paseto_calls.specs.Request.{AreTaken, Refuses, no_memory, refused, status_line}
use Rattle.paseto_calls.specs.Tokens.{IsDeclined, IsTokenFault, footer_reading, reading, writes, writing}
use Rattle.paseto_calls.specs.declared.held_key.HeldKey.{HeldKey}
use Rattle.paseto_calls.specs.declared.wanted.Wanted.{Wanted}
use Rattle.paseto_calls.specs.declared.refusal.Refusal.{Refusal}
use Rattle.paseto_calls.specs.declared.refusal.Refusal.TheVariants.{Memory}

-- a key refuses a token by the refusal of its fault
same_refusal : (error : PasetoError) → key_refusal (key_error_of error) ≡ token_refusal error
same_refusal (Token.Memory source) = refl
same_refusal error = refl

-- a failed allocation stays one
memory_refusal : (error : PasetoError) → IsMemory error → token_refusal error ≡ Memory
memory_refusal (Token.Memory source) memory = refl
memory_refusal error memory = absurd memory

module _ (reads : Reading) (token : List ℕ) where
  -- the token is read as the text
  pub is_read : (text : String Global) → Reads reads token (Ok text) → IsRead reads token (string_bytes text)
  is_read text (Ok own, same, is) = let known : own ≡ text = cc same in rw known at is.read
  is_read text (Err source, same, is) = absurd (cc same)

  fault_of : (source : PasetoError) (refusal : Refusal) → refusal ≡ token_refusal source → IsAnswer reads token (Err source)
      → (refusal ≡ Memory) ⊎ IsTokenFault reads token refusal
  fault_of source refusal same is = elim is.fault [
    | inl memory ↦ inl (same ∙ memory_refusal source memory)
    | inr fault ↦ inr (record { error = source; is_fault = fault; is_refusal = same })
  ]

  -- the token is refused by its first fault, or memory is refused
  pub is_refused : (error : KeyError) → Reads reads token (Err error) → (key_refusal error ≡ Memory) ⊎ IsTokenFault reads token (key_refusal error)
  is_refused error (Ok text, same, is) = absurd (cc same)
  is_refused error (Err source, same, is) =
      let own : error ≡ key_error_of source = cc same in
      fault_of source (key_refusal error) (ap key_refusal own ∙ same_refusal source) is

  -- memory alone is refused where the token is read as a text
  pub is_refused_memory : (error : KeyError) (text : List ℕ) → Reads reads token (Err error) → IsRead reads token text → key_refusal error ≡ Memory
  is_refused_memory error text (Ok own, same, is) read = absurd (cc same)
  is_refused_memory error text (Err source, same, is) read =
      let own : error ≡ key_error_of source = cc same in
      ap key_refusal own ∙ (same_refusal source ∙ memory_refusal source (is.complete text read))

module _ (how : Writing) (written : Bool) (text : List ℕ) where
  written_of : (token : String Global) → (answer : Result (String Global) PasetoError) × (Ok token ≡ lifted answer) × IsWriteAnswer how written text answer
      → how.Writes written text (string_bytes token)
  written_of token (Ok own, same, is) = let known : own ≡ token = cc same in rw known at is.made
  written_of token (Err source, same, is) = absurd (cc same)

  -- the token is one of the text
  pub is_written : (takes : ℕ) (drawn : List ℕ) (token : String Global) → length drawn ≡ takes → Writes takes drawn how written text (Ok token)
      → how.Writes written text (string_bytes token)
  is_written takes drawn token size is = written_of token (is.answer size)

  declined_of : (error : KeyError) → (answer : Result (String Global) PasetoError) × (Err error ≡ lifted answer) × IsWriteAnswer how written text answer
      → (key_refusal error ≡ Memory) ⊎ IsDeclined how written text (key_refusal error)
  declined_of error (Ok own, same, is) = absurd (cc same)
  declined_of error (Err source, same, is) =
      let own : error ≡ key_error_of source = cc same in
      let refusal : key_refusal error ≡ token_refusal source = ap key_refusal own ∙ same_refusal source in
      elim is.declined [
        | inl memory ↦ inl (refusal ∙ memory_refusal source memory)
        | inr declines ↦ inr (record { error = source; declines = declines; is_refusal = refusal })
      ]

  -- there is none, for this reason, or memory is refused
  pub is_declined : (takes : ℕ) (drawn : List ℕ) (error : KeyError) → length drawn ≡ takes → Writes takes drawn how written text (Err error)
      → (key_refusal error ≡ Memory) ⊎ IsDeclined how written text (key_refusal error)
  is_declined takes drawn error size is = declined_of error (is.answer size)

-- what a call that reads is refused with
pub read_refuses : (wanted : Wanted) (key : HeldKey) (token footer assertion : List ℕ)
    → AreTaken (reading wanted key token footer assertion) → (found : Refusal)
    → (found ≡ Memory) ⊎ IsTokenFault (reading_by (named_by key) footer assertion) token found
    → Refuses (reading wanted key token footer assertion) found (status_line found)
read_refuses wanted key token footer assertion taken found (inl memory) = rw memory no_memory
read_refuses wanted key token footer assertion taken found (inr fault) = refused found taken fault

-- what a call that writes is refused with
pub write_refuses : (wanted : Wanted) (key : HeldKey) (drawn text footer assertion : List ℕ)
    → AreTaken (writing wanted key drawn text footer assertion) → (found : Refusal)
    → (found ≡ Memory) ⊎ IsDeclined (writes key drawn footer assertion) (has_bytes footer) text found
    → Refuses (writing wanted key drawn text footer assertion) found (status_line found)
write_refuses wanted key drawn text footer assertion taken found (inl memory) = rw memory no_memory
write_refuses wanted key drawn text footer assertion taken found (inr declined) = refused found taken declined

-- a footer that is not read
pub footer_refuses : (token : List ℕ) → AreTaken (footer_reading token) → (error : PasetoError) → IsTokenFooterFault (sections token) error
    → Refuses (footer_reading token) (token_refusal error) (status_line (token_refusal error))
footer_refuses token taken error fault = refused (token_refusal error) taken (record { error = error; is_fault = fault; is_refusal = refl })
