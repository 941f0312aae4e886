-- From payloads to texts.
use Rattle.std.proofs.Common.{◌≡◌, ◌⊎◌, ℕ, List, Result, Ok, Err, IfOk, IfErr, inl, inr, subst, sym, ◌∙◌}
use Rattle.std.specs.Result.{IsErrAnd}
use Rattle.std.specs.declared.alloc.Global.{Global}
use Rattle.std.specs.declared.vec.Vec.{Vec}
use Rattle.base64.specs.GeneralPurpose.{IsBytes}
use Rattle.rusty_paseto_parts.specs.Section.{base64url}
use Rattle.rusty_paseto_paserk.specs.declared.header.PaserkVersion.{PaserkVersion}
use Rattle.paseto_wrapping.specs.declared.header.WrappedType.{WrappedType}
use Rattle.paseto_wrapping.specs.declared.error.WrapError.{WrapError}
use Rattle.paseto_wrapping.specs.declared.error.WrapError.TheVariants.{NoWrappedKey, OtherVersion, OtherType, InvalidText, InvalidNonce, LongPassword, InvalidCost, TooCostly, InvalidPrivateKey, InvalidPoint, SmallOrder, WrongKey, InvalidKey, Memory}
use Rattle.paseto_wrapping.specs.Error.{IsMemory}
use Rattle.paseto_wrapping.specs.Text.{IsTextFault, ReadsPayload}
use Rattle.paseto_wrapping.specs.Reading.{Faults, InText, IsOfPayload, KeyFaults, TextFaults, Unwraps, UnwrapsForm, UnwrapsKey, Wraps, WrapsForm}

module _ (version : PaserkVersion) (kind : WrappedType) (IsWrapped : Wraps) (IsFault : Faults) (text : List ℕ) where
  -- a text whose header or whose encoding is refused
  text_fault : (error : WrapError) → IsTextFault version kind text error → IsMemory error ⊎ TextFaults version kind IsFault text error
  text_fault NoWrappedKey h = inr h
  text_fault (OtherVersion found) h = inr h
  text_fault (OtherType found) h = inr h
  text_fault InvalidText h = inr (h.0, λ payload is. absurd (h.1 payload is.0 is.1))
  text_fault InvalidNonce h = absurd h
  text_fault LongPassword h = absurd h
  text_fault InvalidCost h = absurd h
  text_fault TooCostly h = absurd h
  text_fault InvalidPrivateKey h = absurd h
  text_fault InvalidPoint h = absurd h
  text_fault SmallOrder h = absurd h
  text_fault WrongKey h = absurd h
  text_fault InvalidKey h = absurd h
  text_fault (Memory source) h = inl tt

  pub text_refused : (error : WrapError) → ReadsPayload version kind text (Err error)
      → Unwraps (InText version kind IsWrapped) (TextFaults version kind IsFault) text (Err error)
  text_refused error reads = record {
    bytes = tt;
    found = tt;
    read = λ key bytes wrapped. reads.read wrapped.0 wrapped.1.0 wrapped.1.1;
    refused = text_fault error reads.refused;
  }

  payload_fault : (payload : Vec ℕ Global) → ReadsPayload version kind text (Ok payload)
      → (error : WrapError) → IsOfPayload error → IsFault payload.items error → TextFaults version kind IsFault text error
  payload_fault payload reads NoWrappedKey own h = absurd own
  payload_fault payload reads (OtherVersion found) own h = absurd own
  payload_fault payload reads (OtherType found) own h = absurd own
  payload_fault payload reads InvalidText own h = (
    (base64url payload.items, reads.written),
    λ other is. subst (λ (p : List ℕ). IsFault p InvalidText) (reads.read other is.0 is.1) h,
  )
  payload_fault payload reads InvalidNonce own h = absurd own
  payload_fault payload reads LongPassword own h = (payload.items, (reads.bytes, reads.written), h)
  payload_fault payload reads InvalidCost own h = (payload.items, (reads.bytes, reads.written), h)
  payload_fault payload reads TooCostly own h = (payload.items, (reads.bytes, reads.written), h)
  payload_fault payload reads InvalidPrivateKey own h = (payload.items, (reads.bytes, reads.written), h)
  payload_fault payload reads InvalidPoint own h = (payload.items, (reads.bytes, reads.written), h)
  payload_fault payload reads SmallOrder own h = (payload.items, (reads.bytes, reads.written), h)
  payload_fault payload reads WrongKey own h = (payload.items, (reads.bytes, reads.written), h)
  payload_fault payload reads InvalidKey own h = absurd own
  payload_fault payload reads (Memory source) own h = absurd own

  pub text_unwrapped : (payload : Vec ℕ Global) → ReadsPayload version kind text (Ok payload)
      → ((p : List ℕ) (error : WrapError) → IsFault p error → IsOfPayload error)
      → (answer : Result (Vec ℕ Global) WrapError) → Unwraps IsWrapped IsFault payload.items answer
      → Unwraps (InText version kind IsWrapped) (TextFaults version kind IsFault) text answer
  text_unwrapped payload reads own (Ok key) unwraps = record {
    bytes = unwraps.bytes;
    found = (payload.items, (reads.bytes, reads.written), unwraps.found);
    read = λ other bytes wrapped. unwraps.read other bytes
        (subst (λ (p : List ℕ). IsWrapped p other) (sym (reads.read wrapped.0 wrapped.1.0 wrapped.1.1)) wrapped.2);
    refused = tt;
  }
  text_unwrapped payload reads own (Err error) unwraps = record {
    bytes = tt;
    found = tt;
    read = λ other bytes wrapped. unwraps.read other bytes
        (subst (λ (p : List ℕ). IsWrapped p other) (sym (reads.read wrapped.0 wrapped.1.0 wrapped.1.1)) wrapped.2);
    refused = lifted unwraps.refused;
  } where
    lifted : IsMemory error ⊎ IsFault payload.items error → IsMemory error ⊎ TextFaults version kind IsFault text error
    lifted (inl memory) = inl memory
    lifted (inr h) = inr (payload_fault payload reads error (own payload.items error h) h)

-- ---- from texts to keys

module _ (version : PaserkVersion) (kind : WrappedType) (IsWrapped : Wraps) (IsFault : Faults) (IsKey : List ℕ → Type 0) (text : List ℕ) where
  key_fault : (error : WrapError) → IsMemory error ⊎ TextFaults version kind IsFault text error
      → KeyFaults IsKey (InText version kind IsWrapped) (TextFaults version kind IsFault) text error
  key_fault NoWrappedKey (inl h) = absurd h
  key_fault NoWrappedKey (inr h) = h
  key_fault (OtherVersion found) (inl h) = absurd h
  key_fault (OtherVersion found) (inr h) = h
  key_fault (OtherType found) (inl h) = absurd h
  key_fault (OtherType found) (inr h) = h
  key_fault InvalidText (inl h) = absurd h
  key_fault InvalidText (inr h) = h
  key_fault InvalidNonce (inl h) = absurd h
  key_fault LongPassword (inl h) = absurd h
  key_fault InvalidNonce (inr h) = h
  key_fault LongPassword (inr h) = h
  key_fault InvalidCost (inl h) = absurd h
  key_fault InvalidCost (inr h) = h
  key_fault TooCostly (inl h) = absurd h
  key_fault TooCostly (inr h) = h
  key_fault InvalidPrivateKey (inl h) = absurd h
  key_fault InvalidPrivateKey (inr h) = h
  key_fault InvalidPoint (inl h) = absurd h
  key_fault InvalidPoint (inr h) = h
  key_fault SmallOrder (inl h) = absurd h
  key_fault SmallOrder (inr h) = h
  key_fault WrongKey (inl h) = absurd h
  key_fault WrongKey (inr h) = h
  key_fault InvalidKey (inl h) = absurd h
  key_fault InvalidKey (inr h) = absurd h
  key_fault (Memory source) h = tt

  -- a text that is not unwrapped gives no key
  pub key_refused : (error : WrapError) → Unwraps (InText version kind IsWrapped) (TextFaults version kind IsFault) text (Err error)
      → (answer : Result (List ℕ) WrapError) → IsErrAnd answer (λ told. told ≡ error)
      → UnwrapsKey IsKey (InText version kind IsWrapped) (TextFaults version kind IsFault) text answer
  key_refused error unwraps (Ok key) is = absurd is
  key_refused error unwraps (Err told) is = record {
    bytes = tt;
    form = tt;
    found = tt;
    read = λ key bytes form wrapped. subst IsMemory (sym is) (unwraps.read key bytes wrapped);
    refused = subst (KeyFaults IsKey (InText version kind IsWrapped) (TextFaults version kind IsFault) text) (sym is) (key_fault error unwraps.refused);
  }

  -- what a text wraps is the key, or is none
  pub key_unwrapped : (bytes : Vec ℕ Global) → Unwraps (InText version kind IsWrapped) (TextFaults version kind IsFault) text (Ok bytes)
      → (answer : Result (List ℕ) WrapError) → IfOk answer (λ key. (key ≡ bytes.items) × IsKey bytes.items)
      → IfErr answer (λ error. (error ≡ InvalidKey) × ¬ IsKey bytes.items)
      → UnwrapsKey IsKey (InText version kind IsWrapped) (TextFaults version kind IsFault) text answer
  key_unwrapped bytes unwraps (Ok key) ok err = record {
    bytes = subst IsBytes (sym ok.0) unwraps.bytes;
    form = subst IsKey (sym ok.0) ok.1;
    found = subst (InText version kind IsWrapped text) (sym ok.0) unwraps.found;
    read = λ other is_bytes is wrapped. ok.0 ∙ unwraps.read other is_bytes wrapped;
    refused = tt;
  }
  key_unwrapped bytes unwraps (Err error) ok err = record {
    bytes = tt;
    form = tt;
    found = tt;
    read = λ other is_bytes is wrapped. absurd (err.1 (subst IsKey (sym (unwraps.read other is_bytes wrapped)) is));
    refused = subst (KeyFaults IsKey (InText version kind IsWrapped) (TextFaults version kind IsFault) text) (sym err.0)
        (bytes.items, unwraps.bytes, unwraps.found, err.1);
  }

-- ---- from texts to keys in a form

module _ (version : PaserkVersion) (kind : WrappedType) (IsWrapped : Wraps) (IsFault : Faults) (IsForm : List ℕ → List ℕ → Type 0) (text : List ℕ) where
  abbrev IsFormFault : WrapError → Type 0
  IsFormFault = KeyFaults (λ octets. (key : List ℕ) × IsForm octets key) (InText version kind IsWrapped) (TextFaults version kind IsFault) text

  -- a text that is not unwrapped gives no key
  pub form_refused : (error : WrapError) → Unwraps (InText version kind IsWrapped) (TextFaults version kind IsFault) text (Err error)
      → (answer : Result (List ℕ) WrapError) → IsErrAnd answer (λ told. told ≡ error)
      → UnwrapsForm IsForm (InText version kind IsWrapped) (TextFaults version kind IsFault) text answer
  form_refused error unwraps (Ok key) is = absurd is
  form_refused error unwraps (Err told) is = record {
    bytes = tt;
    found = tt;
    read = λ key wrapped. subst IsMemory (sym is) (unwraps.read wrapped.0 wrapped.1 wrapped.2);
    refused = subst IsFormFault (sym is)
        (key_fault version kind IsWrapped IsFault (λ octets. (key : List ℕ) × IsForm octets key) text error unwraps.refused);
  }

  module _ (octets : Vec ℕ Global) (unwraps : Unwraps (InText version kind IsWrapped) (TextFaults version kind IsFault) text (Ok octets)) where
    form_of : (key : List ℕ) (wrapped : WrapsForm IsForm (InText version kind IsWrapped) text key) → IsForm octets.items key
    form_of key wrapped = subst (λ (o : List ℕ). IsForm o key) (sym (unwraps.read wrapped.0 wrapped.1 wrapped.2)) wrapped.3

    no_form : (error : WrapError) → IsMemory error ⊎ ((error ≡ InvalidKey) × ((key : List ℕ) → ¬ IsForm octets.items key))
        → UnwrapsForm IsForm (InText version kind IsWrapped) (TextFaults version kind IsFault) text (Err error)
    no_form (Memory source) refused = record { bytes = tt; found = tt; read = λ key wrapped. tt; refused = tt }
    no_form error (inl memory) = absurd memory
    no_form error (inr none) = record {
      bytes = tt;
      found = tt;
      read = λ key wrapped. absurd (none.1 key (form_of key wrapped));
      refused = subst IsFormFault (sym none.0) (octets.items, unwraps.bytes, unwraps.found, λ held. none.1 held.0 held.1);
    }

    -- what a text wraps is a form of the key, or of none
    pub form_unwrapped : ((a b : List ℕ) → IsForm octets.items a → IsForm octets.items b → a ≡ b)
        → ((key : List ℕ) → IsBytes octets.items → IsForm octets.items key → IsBytes key)
        → (answer : Result (List ℕ) WrapError) → IfOk answer (λ key. IsForm octets.items key)
        → IfErr answer (λ error. IsMemory error ⊎ ((error ≡ InvalidKey) × ((key : List ℕ) → ¬ IsForm octets.items key)))
        → UnwrapsForm IsForm (InText version kind IsWrapped) (TextFaults version kind IsFault) text answer
    form_unwrapped one bytes (Ok key) ok err = record {
      bytes = bytes key unwraps.bytes ok;
      found = (octets.items, unwraps.bytes, unwraps.found, ok);
      read = λ other wrapped. one key other ok (form_of other wrapped);
      refused = tt;
    }
    form_unwrapped one bytes (Err error) ok err = no_form error err
