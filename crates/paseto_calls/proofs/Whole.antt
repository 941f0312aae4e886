-- Where there is an answer, nothing is refused but memory.
use Rattle.std.proofs.Common.{◌≡◌, ◌∙◌, ℕ, List, Option, Some, None, Result, Ok, Err, String, Global, ltb-false, length, take, refl, sym}
use Rattle.std.proofs.lemmas.List.{length-take-le}
use Rattle.std.specs.Prelude.{Bool, true, false, if◌then◌else◌, nat_lt}
use Rattle.paseto_keys.specs.AnyKey.{KeyParts}
use Rattle.paseto_calls.specs.Fault.{fault_line, refusal_of}
use Rattle.paseto_calls.specs.HeldKey.{drawn_fault, first_of}
use Rattle.paseto_calls.specs.Request.{AreTaken, IsKeyMade, IsKeyMadeWhole, IsMade, IsMadeWhole, IsMadeWholeWhere, Refuses, Request, misused, no_memory, not_utf8, refused, status_line, told}
use Rattle.paseto_calls.specs.declared.fault.Fault.{Fault}
use Rattle.paseto_calls.specs.declared.held_key.HeldKey.{HeldKey}
use Rattle.paseto_calls.specs.declared.refusal.Refusal.{Refusal}
use Rattle.paseto_calls.specs.declared.refusal.Refusal.TheVariants.{InvalidNonce, Memory}

module _ {A : Type 0} (request : Request A) (Holds : Type 0)
    (refuses : (refusal : Refusal) → AreTaken request → Holds → request.Refuses refusal → refusal ≡ Memory)
    (tells : (refusal : Refusal) (line : List ℕ) → AreTaken request → Holds → request.Tells refusal line → refusal ≡ Memory) where
  pub only_memory : (refusal : Refusal) (line : List ℕ) → Refuses request refusal line → AreTaken request → Holds → refusal ≡ Memory
  only_memory refusal line no_memory taken holds = refl
  only_memory refusal line (misused other fault) taken holds = absurd (let e : None ≡ Some other = sym taken.fine ∙ fault in cc)
  only_memory refusal line (not_utf8 fine none) taken holds = absurd (none taken.texts)
  only_memory refusal line (refused other same reason) taken holds = refuses other taken holds reason
  only_memory refusal line (told other own same reason) taken holds = tells other own taken holds reason

-- of arguments that are what is asked, and of which this holds, nothing is refused but memory
pub whole_where : (request : Request (List ℕ)) (Holds : Type 0)
    → ((refusal : Refusal) → AreTaken request → Holds → request.Refuses refusal → refusal ≡ Memory)
    → ((refusal : Refusal) (line : List ℕ) → AreTaken request → Holds → request.Tells refusal line → refusal ≡ Memory)
    → (result : Result (String Global) Fault) → IsMade request result → IsMadeWholeWhere Holds request result
whole_where request Holds refuses tells (Ok text) made = λ taken holds. tt
whole_where request Holds refuses tells (Err fault) made =
    λ taken holds. only_memory request Holds refuses tells (refusal_of fault) (fault_line fault) made taken holds

-- what is found of arguments that make something is a lack of memory alone
pub record AreApart {A : Type 0} (request : Request A) : Type 0 where
  pub refuses : (made : A) (refusal : Refusal) → AreTaken request → request.Makes made → request.Refuses refusal → refusal ≡ Memory
  pub tells : (made : A) (refusal : Refusal) (line : List ℕ) → AreTaken request → request.Makes made → request.Tells refusal line → refusal ≡ Memory

pub whole_of : (request : Request (List ℕ)) → AreApart request → (result : Result (String Global) Fault) → IsMade request result
    → IsMadeWhole request result
whole_of request apart (Ok text) made = λ other makes. tt
whole_of request apart (Err fault) made =
    λ other makes. only_memory request (request.Makes other) (apart.refuses other) (apart.tells other) (refusal_of fault) (fault_line fault) made
    makes.taken makes.makes

pub key_whole_of : (request : Request KeyParts) → AreApart request → (result : Result HeldKey Refusal) → IsKeyMade request result
    → IsKeyMadeWhole request result
key_whole_of request apart (Ok held) made = λ other makes. tt
key_whole_of request apart (Err refusal) made =
    λ other makes. only_memory request (request.Makes other) (apart.refuses other) (apart.tells other) refusal (status_line refusal) made
    makes.taken makes.makes

-- ---- what is used of the arguments

pub first_none : (one other : Option Refusal) → first_of one other ≡ None → (one ≡ None) × (other ≡ None)
first_none (Some refusal) other fine = absurd (cc fine)
first_none None other fine = (refl, fine)

enough_at : (b : Bool) (count : ℕ) (drawn : List ℕ) → nat_lt (length drawn) count ≡ b → (if b then Some InvalidNonce else None) ≡ None
    → length (take count drawn) ≡ count
enough_at true count drawn is fine = absurd (cc fine)
enough_at false count drawn is fine = length-take-le count drawn (ltb-false (length drawn) count is)

-- as many random bytes are used as are taken
pub enough : (count : ℕ) (drawn : List ℕ) → drawn_fault count drawn ≡ None → length (take count drawn) ≡ count
enough count drawn fine = enough_at (nat_lt (length drawn) count) count drawn refl fine
