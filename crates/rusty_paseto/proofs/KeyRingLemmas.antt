-- What a ring answers for a token.
use Rattle.std.proofs.Common.{◌≡◌, ◌⊎◌, inl, inr, ⊎_elim, ℕ, List, false, Option, Some, None, refl, unwrap_or, Result, Ok, Err, String, Global, string_bytes, sym, ap, subst}
use Rattle.rusty_paseto_core.specs.Reading.{IsAnswer, IsFault, IsRead}
use Rattle.rusty_paseto_parts.specs.Error.{IsMemory as IsMemoryOfCipher}
use Rattle.rusty_paseto_parts.specs.Footer.{footer_text}
use Rattle.rusty_paseto_parts.specs.declared.texts.footer.Footer.{Footer}
use Rattle.rusty_paseto_parts.specs.declared.error.PasetoError.{PasetoError}
use Rattle.rusty_paseto_parts.specs.Section.{HasCount, sections}
use Rattle.rusty_paseto_parts.specs.declared.error.PasetoError.TheVariants.{IncorrectSize}
use Rattle.rusty_paseto.specs.KeyRing.{HasFooter, IsFindingFault, IsFirstFault, IsFound, IsHandedOn, IsMemory, IsNamingFault, IsOpened, IsOpenedUnder, IsRingAnswer, IsUntrustedFault, Keys, Names, Readings, is_too_long, no_limits, read_under}
use Rattle.rusty_paseto.specs.declared.key_ring.limits.Limits.{Limits}
use Rattle.rusty_paseto.specs.declared.error.KeyRingError.{KeyRingError}
use Rattle.rusty_paseto.specs.declared.error.KeyRingError.TheVariants.{Untrusted, NoFooter, NotAnObject, NoKeyId, UnknownKey, Token, Memory}

stays_memory : (source : PasetoError) (handed error : KeyRingError) → IsHandedOn source handed error → IsMemoryOfCipher source → IsMemory error
stays_memory source handed error (inl both) memory = both.1
stays_memory source handed error (inr other) memory = absurd (other.0 memory)

-- where neither the parser nor the ring has a limit, no token is too long
pub unlimited : (longest : Option ℕ) (limits : Limits) (token : List ℕ) → longest ≡ None → limits ≡ no_limits → is_too_long longest limits token ≡ false
unlimited longest limits token none free = rw (none, free) refl

-- the footer under which a token is read, as a text
pub bound_text : (expected : Option Footer) (own : Footer) → footer_text (unwrap_or expected own) ≡ read_under expected (footer_text own)
bound_text (Some other) own = refl
bound_text None own = refl

-- an error that is not a failed allocation is handed on
pub handed_on : (source known : PasetoError) (handed error : KeyRingError) → source ≡ known → ¬ IsMemoryOfCipher known → IsHandedOn source handed error → error ≡ handed
handed_on source known handed error same none (inl both) = absurd (none (subst IsMemoryOfCipher same both.0))
handed_on source known handed error same none (inr other) = other.1

-- ---- the key that is found

module _ {K : Type 0} (keys : Keys K) (token : List ℕ) where
  -- a fault of finding the footer is one of finding the key
  pub untrusted_fault : (error : KeyRingError) → IsUntrustedFault token error → IsFindingFault keys token error
  untrusted_fault (Untrusted source) fault = fault
  untrusted_fault NoFooter fault = fault
  untrusted_fault NotAnObject fault = absurd fault
  untrusted_fault NoKeyId fault = absurd fault
  untrusted_fault (UnknownKey id) fault = absurd fault
  untrusted_fault (Token source) fault = absurd fault
  untrusted_fault (Memory refused) fault = absurd fault

  module _ (footer : List ℕ) (has : HasFooter token (Some footer)) (only : (other : List ℕ) → HasFooter token (Some other) → footer ≡ other) where
    -- so is one of what the footer names
    pub naming_fault : (error : KeyRingError) → IsNamingFault footer error → IsFindingFault keys token error
    naming_fault (Untrusted source) fault = absurd fault
    naming_fault NoFooter fault = absurd fault
    naming_fault NotAnObject fault = (footer, has, fault)
    naming_fault NoKeyId fault = (footer, has, fault)
    naming_fault (UnknownKey id) fault = absurd fault
    naming_fault (Token source) fault = absurd fault
    naming_fault (Memory refused) fault = absurd fault

    -- what another footer of the token names, this one does
    pub names_too : (other id : List ℕ) (key : K) → IsFound keys token other id key → Names footer id
    names_too other id key is = subst (λ text. Names text id) (sym (only other is.has)) is.names

    -- a key that is found is that of this id, under this footer
    pub same_found : (id : List ℕ) → ((other : List ℕ) → Names footer other → id ≡ other)
        → (other named : List ℕ) (key : K) → IsFound keys token other named key → (footer ≡ other) × (id ≡ named) × (keys id ≡ Some key)
    same_found id only_id other named key is =
        let same_id : id ≡ named = only_id named (names_too other named key is) in
        (only other is.has, same_id, rw same_id is.has_key)

-- ---- what a ring answers

module _ (keys : Keys (List ℕ)) (reading : Readings) (token : List ℕ) where
  finding_fault : (error : KeyRingError) → IsFindingFault keys token error → IsFirstFault keys reading token error
  finding_fault (Untrusted source) fault = fault
  finding_fault NoFooter fault = fault
  finding_fault NotAnObject fault = fault
  finding_fault NoKeyId fault = fault
  finding_fault (UnknownKey id) fault = fault
  finding_fault (Token source) fault = absurd fault.2
  finding_fault (Memory refused) fault = fault

  -- no key is found
  pub unfound : (error : KeyRingError) → ((footer id key : List ℕ) → IsFound keys token footer id key → IsMemory error)
      → (¬ HasCount (sections token) → error ≡ Untrusted IncorrectSize)
      → IsMemory error ⊎ IsFindingFault keys token error → IsRingAnswer keys reading token (Err error)
  unfound error complete count fault = record {
    opened = tt;
    complete = λ id text is. complete is.footer id is.key is.found;
    count = λ none. ap Err (count none);
    fault = ⊎_elim (λ memory. inl memory) (λ first. inr (finding_fault error first)) fault;
  }

  -- this key is found, and no other
  module _ (footer id : String Global) (key : List ℕ) (found : IsFound keys token (string_bytes footer) (string_bytes id) key)
      (only : (other named given : List ℕ) → IsFound keys token other named given → (string_bytes footer ≡ other) × (string_bytes id ≡ named) × (key ≡ given)) where
    read_here : (other text : List ℕ) → IsOpened keys reading token other text → IsRead (reading key (string_bytes footer)) token text
    read_here other text is =
        let same = only is.footer other is.key is.found in
        subst (λ own. IsRead (reading key own) token text) (sym same.0)
        (subst (λ given. IsRead (reading given is.footer) token text) (sym same.2) is.is_read)

    token_fault : (source : PasetoError) (error : KeyRingError) → IsHandedOn source (Token source) error
        → IsMemoryOfCipher source ⊎ IsFault (reading key (string_bytes footer)) token source → IsMemory error ⊎ IsFirstFault keys reading token error
    token_fault source error (inl memory) fault = inl memory.1
    token_fault source error (inr other) (inl memory) = absurd (other.0 memory)
    token_fault source error (inr other) (inr fault) =
        rw other.1 (inr (string_bytes footer, string_bytes id, key, found, other.0, fault))

    opened_as : (text : String Global) → IsAnswer (reading key (string_bytes footer)) token (Ok text) → IsRingAnswer keys reading token (Ok (id, text))
    opened_as text answer = record {
      opened = record { footer = string_bytes footer; key = key; found = found; is_read = answer.read };
      complete = λ other given is. ((only is.footer other is.key is.found).1, answer.complete given (read_here other given is));
      count = λ other. absurd (other found.has.count);
      fault = tt;
    }

    pub answered : (opened : Result (String Global) PasetoError) (result : Result (String Global × String Global) KeyRingError)
        → IsAnswer (reading key (string_bytes footer)) token opened → IsOpenedUnder id opened result → IsRingAnswer keys reading token result
    answered (Ok text) result answer is = rw is (opened_as text answer)
    answered (Err source) (Ok given) answer is = absurd is
    answered (Err source) (Err error) answer is = record {
      opened = tt;
      complete = λ other given opened. stays_memory source (Token source) error is (answer.complete given (read_here other given opened));
      count = λ other. absurd (other found.has.count);
      fault = token_fault source error is answer.fault;
    }
