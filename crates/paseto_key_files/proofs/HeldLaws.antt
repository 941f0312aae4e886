-- What a locked key holds.
use Rattle.std.proofs.Common.{◌≡◌, ◌⊎◌, ℕ, List, Result, Ok, Err, IfOk, IfErr, String, Global, string_bytes, inl, inr, sym, ap, subst, ◌∙◌}
use Rattle.paseto_wrapping.specs.Reading.{Faults, KeyFaults, UnwrapsForm, UnwrapsKey, Wraps, WrapsForm}
use Rattle.paseto_wrapping.specs.declared.error.WrapError.{WrapError}
use Rattle.paseto_wrapping.specs.declared.error.WrapError.TheVariants.{InvalidKey, Memory as NoWrapMemory}
use Rattle.rusty_paseto_paserk.specs.declared.header.PaserkVersion.{PaserkVersion}
use Rattle.rusty_paseto_paserk.specs.declared.header.PaserkType.{PaserkType}
use Rattle.rusty_paseto_paserk.specs.declared.error.PaserkError.{PaserkError}
use Rattle.rusty_paseto_paserk.specs.declared.error.PaserkError.TheVariants.{Memory as NoPaserkMemory}
use Rattle.rusty_paseto_paserk.specs.Text.{IsKeyFault, ReadsKey as ReadsPaserk}
use Rattle.paseto_key_files.specs.declared.error.KeyFileError.{KeyFileError}
use Rattle.paseto_key_files.specs.declared.error.KeyFileError.TheVariants.{Memory, Wrap}
use Rattle.paseto_key_files.specs.Error.{IsMemory, opener_error_of, wrap_error_of}
use Rattle.paseto_key_files.specs.Held.{GivesLine, HoldsKey, HoldsNoKey}
use Rattle.paseto_key_files.specs.Line.{IsSomeForm, IsWritingOf, WritesLine}
use Rattle.paseto_key_files.specs.Opening.{ByKey, ByNoKey}
use Rattle.paseto_key_files.proofs.Errors.{opener_memory, wrap_memory}

-- IsForm is which octets are which key, IsUnwrapped the same with what else is asked of a key that is unwrapped, and IsKey what
-- is asked of one that has a line
module _ (IsUnwrapped IsForm : List ℕ → List ℕ → Type 0) (IsKey : List ℕ → Type 0) (line_of : List ℕ → List ℕ) (IsWrapped : Wraps) (IsFault : Faults)
    (text : List ℕ) (taken : (octets key : List ℕ) → IsForm octets key → IsUnwrapped octets key)
    (given : (octets key : List ℕ) → IsUnwrapped octets key → IsForm octets key) (has_line : (octets key : List ℕ) → IsForm octets key → IsKey key) where
  form_fault : (error : WrapError) → KeyFaults (IsSomeForm IsUnwrapped) IsWrapped IsFault text error
      → HoldsNoKey (IsSomeForm IsForm) IsWrapped IsFault text (wrap_error_of error)
  form_fault (NoWrapMemory source) h = tt
  form_fault InvalidKey h = (h.0, h.1, h.2, λ is. h.3 (is.0, taken h.0 is.0 is.1))
  form_fault error h = h

  as_unwrapped : (key : List ℕ) → WrapsForm IsForm IsWrapped text key → WrapsForm IsUnwrapped IsWrapped text key
  as_unwrapped key h = (h.0, h.1, h.2, taken h.0 key h.3)

  pub form_not_unwrapped : (error : WrapError) → UnwrapsForm IsUnwrapped IsWrapped IsFault text (Err error)
      → GivesLine (HoldsKey IsKey line_of (WrapsForm IsForm IsWrapped) text) (HoldsNoKey (IsSomeForm IsForm) IsWrapped IsFault text) (Err (wrap_error_of error))
  form_not_unwrapped error unwraps = record {
    found = tt;
    read = λ line h. wrap_memory error (unwraps.read h.key (as_unwrapped h.key h.wrapped));
    refused = form_fault error unwraps.refused;
  }

  module _ (key : List ℕ) (unwraps : UnwrapsForm IsUnwrapped IsWrapped IsFault text (Ok key)) where
    own_form : WrapsForm IsForm IsWrapped text key
    own_form = (unwraps.found.0, unwraps.found.1, unwraps.found.2, given unwraps.found.0 key unwraps.found.3)

    own_key : IsKey key
    own_key = has_line unwraps.found.0 key (given unwraps.found.0 key unwraps.found.3)

    not_written_form : (error : KeyFileError) → IsMemory error ⊎ ((error ≡ Wrap InvalidKey) × ¬ IsKey key)
        → GivesLine (HoldsKey IsKey line_of (WrapsForm IsForm IsWrapped) text) (HoldsNoKey (IsSomeForm IsForm) IsWrapped IsFault text) (Err error)
    not_written_form (Memory source) h = record { found = tt; read = λ line is. tt; refused = tt }
    not_written_form error (inl memory) = absurd memory
    not_written_form error (inr other) = absurd (other.1 own_key)

    pub form_unwrapped : (answer : Result (String Global) KeyFileError) → WritesLine IsKey line_of key answer
        → GivesLine (HoldsKey IsKey line_of (WrapsForm IsForm IsWrapped) text) (HoldsNoKey (IsSomeForm IsForm) IsWrapped IsFault text) answer
    form_unwrapped (Ok line) writes = record {
      found = record { key = key; bytes = unwraps.bytes; form = own_key; wrapped = own_form; line_is = writes.ok.1 };
      read = λ other h. writes.ok.1 ∙ ap line_of (unwraps.read h.key (as_unwrapped h.key h.wrapped)) ∙ sym h.line_is;
      refused = tt;
    }
    form_unwrapped (Err error) writes = not_written_form error writes.refused

-- IsKey is what is asked of a key that is unwrapped, which has a line
module _ (IsKey : List ℕ → Type 0) (line_of : List ℕ → List ℕ) (IsWrapped : Wraps) (IsFault : Faults) (text : List ℕ) where
  key_fault : (error : WrapError) → KeyFaults IsKey IsWrapped IsFault text error → HoldsNoKey IsKey IsWrapped IsFault text (wrap_error_of error)
  key_fault (NoWrapMemory source) h = tt
  key_fault error h = h

  pub not_unwrapped : (error : WrapError) → UnwrapsKey IsKey IsWrapped IsFault text (Err error)
      → GivesLine (HoldsKey IsKey line_of IsWrapped text) (HoldsNoKey IsKey IsWrapped IsFault text) (Err (wrap_error_of error))
  not_unwrapped error unwraps = record {
    found = tt;
    read = λ line h. wrap_memory error (unwraps.read h.key h.bytes h.form h.wrapped);
    refused = key_fault error unwraps.refused;
  }

  module _ (key : List ℕ) (unwraps : UnwrapsKey IsKey IsWrapped IsFault text (Ok key)) where
    one_key : (line : List ℕ) (h : HoldsKey IsKey line_of IsWrapped text line) → key ≡ h.key
    one_key line h = unwraps.read h.key h.bytes h.form h.wrapped

    memory_refused : (error : KeyFileError) → IsMemory error
        → GivesLine (HoldsKey IsKey line_of IsWrapped text) (HoldsNoKey IsKey IsWrapped IsFault text) (Err error)
    memory_refused (Memory source) h = record { found = tt; read = λ line is. tt; refused = tt }
    memory_refused error h = absurd h

    pub unwrapped : (answer : Result (String Global) KeyFileError) → IfOk answer (λ line. string_bytes line ≡ line_of key) → IfErr answer IsMemory
        → GivesLine (HoldsKey IsKey line_of IsWrapped text) (HoldsNoKey IsKey IsWrapped IsFault text) answer
    unwrapped (Ok line) ok err = record {
      found = record { key = key; bytes = unwraps.bytes; form = unwraps.form; wrapped = unwraps.found; line_is = ok };
      read = λ other h. ok ∙ ap line_of (one_key other h) ∙ sym h.line_is;
      refused = tt;
    }
    unwrapped (Err error) ok err = memory_refused error err

-- what another key opens
module _ (version : PaserkVersion) (kind : PaserkType) (IsOpener IsKey : List ℕ → Type 0) (line_of : List ℕ → List ℕ) (IsHeld : List ℕ → Wraps)
    (IsWanted : List ℕ → Type 0) (IsWrapped : List ℕ → Wraps) (IsFault : List ℕ → Faults) (opener text : List ℕ) where
  opener_fault : (error : PaserkError) → IsKeyFault version kind IsOpener opener error
      → ByNoKey version kind IsOpener IsWanted IsWrapped IsFault opener text (opener_error_of error)
  opener_fault (NoPaserkMemory source) h = tt
  opener_fault error h = h

  pub no_opener : (error : PaserkError) → ReadsPaserk version kind IsOpener opener (Err error)
      → GivesLine (HoldsKey IsKey line_of (ByKey version kind IsOpener IsHeld opener) text)
      (ByNoKey version kind IsOpener IsWanted IsWrapped IsFault opener text) (Err (opener_error_of error))
  no_opener error reads = record {
    found = tt;
    read = λ line h. opener_memory error (reads.read h.wrapped.0 h.wrapped.1.bytes h.wrapped.1.form h.wrapped.1.written);
    refused = opener_fault error reads.refused;
  }

  module _ (own : List ℕ) (reads : ReadsPaserk version kind IsOpener opener (Ok own)) where
    is_opener : IsWritingOf version kind IsOpener own opener
    is_opener = record { bytes = reads.bytes; form = reads.form; written = reads.written }

    held_by_own : (line : List ℕ) → HoldsKey IsKey line_of (ByKey version kind IsOpener IsHeld opener) text line
        → HoldsKey IsKey line_of (IsHeld own) text line
    held_by_own line h =
        let same : own ≡ h.wrapped.0 = reads.read h.wrapped.0 h.wrapped.1.bytes h.wrapped.1.form h.wrapped.1.written in
        record {
          key = h.key;
          bytes = h.bytes;
          form = h.form;
          wrapped = subst (λ (o : List ℕ). IsHeld o text h.key) (sym same) h.wrapped.2;
          line_is = h.line_is;
        }

    own_fault : (error : KeyFileError) → HoldsNoKey IsWanted (IsWrapped own) (IsFault own) text error
        → ByNoKey version kind IsOpener IsWanted IsWrapped IsFault opener text error
    own_fault (Wrap error) h = (own, is_opener, h)
    own_fault (Memory source) h = tt
    own_fault error h = absurd h

    pub opened_by_own : (answer : Result (String Global) KeyFileError)
        → GivesLine (HoldsKey IsKey line_of (IsHeld own) text) (HoldsNoKey IsWanted (IsWrapped own) (IsFault own) text) answer
        → GivesLine (HoldsKey IsKey line_of (ByKey version kind IsOpener IsHeld opener) text)
        (ByNoKey version kind IsOpener IsWanted IsWrapped IsFault opener text) answer
    opened_by_own (Ok line) gives = record {
      found = record {
        key = gives.found.key;
        bytes = gives.found.bytes;
        form = gives.found.form;
        wrapped = (own, is_opener, gives.found.wrapped);
        line_is = gives.found.line_is;
      };
      read = λ other h. gives.read other (held_by_own other h);
      refused = tt;
    }
    opened_by_own (Err error) gives = record {
      found = tt;
      read = λ other h. gives.read other (held_by_own other h);
      refused = own_fault error gives.refused;
    }
