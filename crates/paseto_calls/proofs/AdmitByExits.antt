-- What C is answered where a token is admitted by a ring.
use Rattle.std.proofs.Common.{◌≡◌, inl, inr, ℕ, ℤ, true, false, List, map, None, Result, Ok, Err, IfOk, IfErr, IsOkAnd, MatchResult, String, Global, string_bytes, refl}
use Rattle.serde_json.specs.View.{view}
use Rattle.serde_json.specs.Written.{compact_text, has_float}
use Rattle.serde_json.specs.declared.value.Value.{Value}
use Rattle.rusty_paseto_parts.specs.Limit.{has_long_footer}
use Rattle.rusty_paseto_parts.specs.Section.{sections}
use Rattle.rusty_paseto_parts.specs.declared.error.PasetoError.TheVariants as Token
use Rattle.rusty_paseto_generic.specs.declared.error.GenericParserError.TheVariants.{CipherError}
use Rattle.paseto_keys.specs.Ring.{IsAdmittedByRing, Wanted}
use Rattle.paseto_keys.specs.declared.ring_error.RingError.{RingError}
use Rattle.paseto_calls.specs.Admit.{IsUnprepared, demanded}
use Rattle.paseto_calls.specs.AdmitBy.{IsAsked, admitting_by, key_in, ring_fault}
use Rattle.paseto_calls.specs.Request.{AreTaken, IsFaultOf, IsMade, Refuses, no_memory, not_utf8, refused, status_line, told}
use Rattle.paseto_calls.specs.declared.admit.options.AdmitOptions.{AdmitOptions}
use Rattle.paseto_calls.specs.declared.fault.Fault.{Fault}
use Rattle.paseto_calls.specs.declared.fault.Fault.TheVariants.{Refused, Unparsed}
use Rattle.paseto_calls.specs.declared.held_key.HeldKey.{HeldKey}
use Rattle.paseto_calls.specs.declared.refusal.Refusal.{Refusal}
use Rattle.paseto_calls.specs.declared.refusal.Refusal.TheVariants.{Memory}

-- what could not be prepared is refused
pub unprepared_refuses : (keys : List HeldKey) (token expected : List ℕ) (now : ℤ) (footer assertion : List ℕ) (options : AdmitOptions) (found : Refusal)
    → (admitting_by keys token expected now footer assertion options).fault ≡ None
    → IsUnprepared expected now (demanded options) token footer assertion found
    → Refuses (admitting_by keys token expected now footer assertion options) found (status_line found)
unprepared_refuses keys token expected now footer assertion options found fine (inl memory) = rw memory no_memory
unprepared_refuses keys token expected now footer assertion options found fine (inr (inl none)) = rw none.0 (not_utf8 fine none.1)
unprepared_refuses keys token expected now footer assertion options found fine (inr (inr reason)) =
    refused found (record { fine = fine; texts = reason.0 }) reason.1

-- what is written of what was admitted
abbrev pub IsText : Result (String Global × Value) RingError → Result (String Global) Fault → Type 0
IsText found result =
    IfOk result (λ text. IsOkAnd found (λ pair. has_float (view pair.1) ≡ false → string_bytes text ≡ compact_text (view pair.1)))
    × IfErr result (λ fault. MatchResult found (λ pair. fault ≡ Refused Memory) (λ error. fault ≡ ring_fault error))

module _ (keys : List HeldKey) (token expected : List ℕ) (now : ℤ) (footer assertion : List ℕ) (options : AdmitOptions)
    (taken : AreTaken (admitting_by keys token expected now footer assertion options)) (wanted : Wanted)
    (asked : IsAsked expected now (demanded options) footer assertion wanted) where
  pub long_told : has_long_footer (demanded options).longest_footer (sections token) ≡ true
      → IsFaultOf (admitting_by keys token expected now footer assertion options) (Unparsed (CipherError Token.TooLong))
  long_told long = told _ _ taken (record {
    wanted = wanted;
    asked = asked;
    fault = Unparsed (CipherError Token.TooLong);
    is_fault = inl (long, refl);
    is_refusal = refl;
    is_line = refl;
  })

  module _ (short : has_long_footer (demanded options).longest_footer (sections token) ≡ false) where
    error_told : (error : RingError) → IsAdmittedByRing (map key_in keys) wanted token (Err error)
        → IsFaultOf (admitting_by keys token expected now footer assertion options) (ring_fault error)
    error_told error admitted = told _ _ taken (record {
      wanted = wanted;
      asked = asked;
      fault = ring_fault error;
      is_fault = inr (short, (error, admitted, refl));
      is_refusal = refl;
      is_line = refl;
    })

    pub answer_made : (found : Result (String Global × Value) RingError) (result : Result (String Global) Fault)
        → IsAdmittedByRing (map key_in keys) wanted token found → IsText found result
        → IsMade (admitting_by keys token expected now footer assertion options) result
    answer_made (Ok pair) (Ok text) admitted written = record {
      taken = taken;
      makes = record {
        wanted = wanted;
        asked = asked;
        short = short;
        id = pair.0;
        value = pair.1;
        admitted = admitted;
        is_text = written.0;
      };
    }
    answer_made (Ok pair) (Err fault) admitted written = rw written.1 no_memory
    answer_made (Err error) (Ok text) admitted written = absurd written.0
    answer_made (Err error) (Err fault) admitted written = rw written.1 (error_told error admitted)
