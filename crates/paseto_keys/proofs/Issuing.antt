-- What is answered where the payload of a token is not made.
use Rattle.std.proofs.Common.{◌≡◌, ℕ, Bool, List, length, Ok, Err, inl, refl}
use Rattle.std.specs.declared.alloc.AllocError.{AllocError}
use Rattle.rusty_paseto_parts.specs.declared.error.PasetoError.TheVariants.{Memory as NoTokenMemory}
use Rattle.paseto_keys.specs.Tokens.{IsLength, Writes}
use Rattle.paseto_keys.specs.Writing.{Writing}
use Rattle.paseto_keys.specs.declared.error.KeyError.TheVariants.{Memory}

pub no_payload : (takes : ℕ) (drawn : List ℕ) (writing : Writing) (written : Bool) (text : List ℕ) (source : AllocError) (done : Unit {0})
    → IsLength takes (length drawn) (λ answer. answer ≡ Ok tt) (Ok done) → Writes takes drawn writing written text (Err (Memory source))
no_payload takes drawn writing written text source done sized = record {
  other = λ other. let none = sized.other other in absurd (cc none);
  answer = λ _. (Err (NoTokenMemory source), refl, record { made = tt; declined = inl tt });
}
