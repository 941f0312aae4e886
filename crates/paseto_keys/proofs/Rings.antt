-- What is answered by a ring of keys of any version and type.
use Rattle.std.proofs.Common.{◌≡◌, false, ℕ, List, length, Some, is_some, Result, String, Global, refl, subst}
use Rattle.serde_json.specs.declared.value.Value.{Value}
use Rattle.rusty_paseto_parts.specs.Limit.{is_beyond}
use Rattle.rusty_paseto_parts.specs.Section.{HasCount, sections}
use Rattle.rusty_paseto.specs.KeyRing.{IsClaimsAnswer, IsRingAnswer}
use Rattle.rusty_paseto.specs.declared.error.KeyRingError.{KeyRingError}
use Rattle.rusty_paseto.specs.declared.error.KeyRingParserError.{KeyRingParserError}
use Rattle.rusty_paseto.proofs.KeyRingParsing.{claims_answer}
use Rattle.rusty_paseto_paserk.specs.declared.header.PaserkType.{PaserkType}
use Rattle.rusty_paseto_paserk.specs.declared.header.PaserkVersion.{PaserkVersion}
use Rattle.paseto_keys.specs.AnyKey.{takes_assertion}
use Rattle.paseto_keys.specs.Ring.{IsAdmittedByRing, IsAdmittedIn, Wanted, by_ring, kind_in, readings_in, ring_of}
use Rattle.paseto_keys.specs.declared.any_key.AnyKey.{AnyKey}
use Rattle.paseto_keys.specs.declared.ring_error.RingError.{RingError}

module _ (kind : PaserkType) (version : PaserkVersion) (keys : List AnyKey) (wanted : Wanted) (token : List ℕ) where
  -- the answer for the type and the version of a token is that for the token
  in_kind : (result : Result (String Global × Value) RingError) → HasCount (sections token) → kind_in (sections token) ≡ Some (kind, version)
      → IsAdmittedIn kind version keys wanted token result → IsAdmittedByRing keys wanted token result
  in_kind result count is answer = record {
    count = λ other. absurd (other count);
    header = λ _ none. absurd (cc (is, none));
    answer = λ other own _ named.
        let same : (kind, version) ≡ (other, own) = cc (is, named) in
        subst (λ (of : PaserkType × PaserkVersion). IsAdmittedIn of.0 of.1 keys wanted token result) same answer;
  }

  -- the answer for the claims of what the key read
  pub claims : HasCount (sections token) → kind_in (sections token) ≡ Some (kind, version)
      → (takes_assertion version ≡ false → is_some wanted.assertion ≡ false) → is_beyond wanted.longest (length token) ≡ false
      → (opened : Result (String Global × String Global) KeyRingError) (answer : Result (String Global × Value) KeyRingParserError)
      → IsRingAnswer (ring_of kind version keys) (readings_in kind version wanted.footer wanted.assertion) token opened
      → IsClaimsAnswer wanted.rules opened answer → IsAdmittedByRing keys wanted token (by_ring answer)
  claims count is bound short opened answer by_key checked = in_kind (by_ring answer) count is (record {
    unbound = λ none given. absurd (cc (bound none, given));
    long = λ _ other. absurd (cc (short, other));
    answer = λ _ _. (answer, refl, claims_answer _ _ _ _ opened answer by_key checked);
  })
