-- Why a call makes nothing of the keys, the random bytes and the texts that it is given.
use Rattle.std.proofs.Common.{◌≡◌, ◌∙◌, ◌⊎◌, ◌&&◌, not, ℕ, List, inl, inr, Bool, true, false, if◌then◌else◌, Option, Some, None, Result, Err, String, Global, refl, sym, ap}
use Rattle.std.proofs.lemmas.Bool.{false≢true}
use Rattle.rusty_paseto_paserk.specs.declared.header.PaserkType.{PaserkType}
use Rattle.rusty_paseto_paserk.specs.declared.header.PaserkType.TheVariants.{Local, Secret, Public}
use Rattle.paseto_keys.specs.AnyKey.{reads_tokens, takes_assertion, writes_tokens}
use Rattle.paseto_calls.specs.Arguments.{AreUtf8, has_bytes}
use Rattle.paseto_calls.specs.HeldKey.{bound_fault, first_of, is_type, is_version, is_wanted, type_by, version_by}
use Rattle.paseto_calls.specs.Request.{IsMade, IsMadeWhole, Makes, Refuses, Request, misused, no_memory, not_utf8, status_line}
use Rattle.paseto_calls.specs.declared.fault.Fault.{Fault}
use Rattle.paseto_calls.specs.declared.fault.Fault.TheVariants.{Refused}
use Rattle.paseto_calls.specs.declared.held_key.HeldKey.{HeldKey}
use Rattle.paseto_calls.specs.declared.refusal.Refusal.{Refusal}
use Rattle.paseto_calls.specs.declared.refusal.Refusal.TheVariants.{Memory, NotUtf8}
use Rattle.paseto_calls.specs.declared.wanted.Wanted.{Wanted}
use Rattle.paseto_calls.specs.declared.wanted.Wanted.TheVariants.{LocalKeys, SecretKeys, PublicKeys, Readers, Writers}

-- the exit of a `?` on this refusal
abbrev pub IsExit : Result (String Global) Fault → Refusal → Type 0
IsExit result found = (fault : Fault) × (result ≡ Err fault) × (fault ≡ Refused found)

-- the exit is a refusal of the call's
pub exit_made : (request : Request (List ℕ)) (result : Result (String Global) Fault) (found : Refusal) → IsExit result found
    → Refuses request found (status_line found) → IsMade request result
exit_made request result found exit reason = rw (exit.1, exit.2) reason

-- at such an exit nothing but memory is refused where there is an answer
pub exit_whole : (request : Request (List ℕ)) (result : Result (String Global) Fault) (found : Refusal) → IsExit result found
    → ((text : List ℕ) → Makes request text → found ≡ Memory) → IsMadeWhole request result
exit_whole request result found exit only = rw (exit.1, exit.2) only

-- a key, random bytes or options are refused
pub fault_refuses : {A : Type 0} (request : Request A) (found : Refusal) → (found ≡ Memory) ⊎ (request.fault ≡ Some found)
    → Refuses request found (status_line found)
fault_refuses request found (inl memory) = rw memory no_memory
fault_refuses request found (inr fault) = misused found fault

pub fault_only : {A : Type 0} (request : Request A) (found : Refusal) (made : A) → (found ≡ Memory) ⊎ (request.fault ≡ Some found)
    → Makes request made → found ≡ Memory
fault_only request found made (inl memory) makes = memory
fault_only request found made (inr fault) makes = absurd (let e : None ≡ Some found = sym makes.taken.fine ∙ fault in cc)

-- an argument is no text
pub text_refuses : {A : Type 0} (request : Request A) (found : Refusal) → request.fault ≡ None → (found ≡ NotUtf8) × (¬ AreUtf8 request.texts)
    → Refuses request found (status_line found)
text_refuses request found fine none = rw none.0 (not_utf8 fine none.1)

pub text_only : {A : Type 0} (request : Request A) (found : Refusal) (made : A) → (found ≡ NotUtf8) × (¬ AreUtf8 request.texts)
    → Makes request made → found ≡ Memory
text_only request found made none makes = absurd (none.1 makes.taken.texts)

-- the first of two reasons
pub first_fault : (one other : Option Refusal) (found : Refusal) → (found ≡ Memory) ⊎ (one ≡ Some found)
    → (found ≡ Memory) ⊎ (first_of one other ≡ Some found)
first_fault one other found (inl memory) = inl memory
first_fault one other found (inr fault) = inr (ap (λ first. first_of first other) fault)

pub second_fault : (one other : Option Refusal) (found : Refusal) → one ≡ None → other ≡ Some found → first_of one other ≡ Some found
second_fault one other found fine fault = ap (λ first. first_of first other) fine ∙ fault

pub no_fault : (one other : Option Refusal) → one ≡ None → other ≡ None → first_of one other ≡ None
no_fault one other fine also = ap (λ first. first_of first other) fine ∙ also

-- a key that is used is of a type that is wanted, and takes the assertion
suits_at : (v t rest wanted given takes : Bool) (a b e : Refusal)
    → first_of (if t && not wanted then Some a else (if v && (t && rest) then None else Some b)) (if given && not takes then Some e else None) ≡ None
    → (wanted ≡ true) × (takes ≡ false → given ≡ false)
suits_at v true rest false given takes a b e is = absurd (cc is)
suits_at true false rest wanted given takes a b e is = absurd (cc is)
suits_at false false rest wanted given takes a b e is = absurd (cc is)
suits_at false true rest true given takes a b e is = absurd (cc is)
suits_at true true false true given takes a b e is = absurd (cc is)
suits_at true true true true true false a b e is = absurd (cc is)
suits_at true true true true true true a b e is = (refl, λ no. absurd (false≢true (sym no)))
suits_at true true true true false takes a b e is = (refl, λ no. refl)

pub suits : (wanted : Wanted) (key : HeldKey) (assertion : List ℕ) → bound_fault wanted key assertion ≡ None
    → (is_wanted wanted (type_by key.kind) ≡ true) × (takes_assertion (version_by key.version) ≡ false → has_bytes assertion ≡ false)
suits wanted key assertion fine =
    suits_at (is_version key.version) (is_type key.kind) _ (is_wanted wanted (type_by key.kind)) (has_bytes assertion)
    (takes_assertion (version_by key.version)) _ _ _ fine

-- which types of keys read and write tokens
pub locals_read : (kind : PaserkType) → is_wanted LocalKeys kind ≡ true → reads_tokens kind ≡ true
locals_read Local is = refl
locals_read Secret is = absurd (false≢true is)
locals_read Public is = absurd (false≢true is)

pub publics_read : (kind : PaserkType) → is_wanted PublicKeys kind ≡ true → reads_tokens kind ≡ true
publics_read Local is = absurd (false≢true is)
publics_read Secret is = absurd (false≢true is)
publics_read Public is = refl

pub readers_read : (kind : PaserkType) → is_wanted Readers kind ≡ true → reads_tokens kind ≡ true
readers_read Local is = refl
readers_read Secret is = absurd (false≢true is)
readers_read Public is = refl

pub locals_write : (kind : PaserkType) → is_wanted LocalKeys kind ≡ true → writes_tokens kind ≡ true
locals_write Local is = refl
locals_write Secret is = absurd (false≢true is)
locals_write Public is = absurd (false≢true is)

pub secrets_write : (kind : PaserkType) → is_wanted SecretKeys kind ≡ true → writes_tokens kind ≡ true
secrets_write Local is = absurd (false≢true is)
secrets_write Secret is = refl
secrets_write Public is = absurd (false≢true is)

pub writers_write : (kind : PaserkType) → is_wanted Writers kind ≡ true → writes_tokens kind ≡ true
writers_write Local is = refl
writers_write Secret is = refl
writers_write Public is = absurd (false≢true is)
