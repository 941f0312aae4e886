-- What is answered where a key of some type is needed.
use Rattle.std.proofs.Common.{◌≡◌, false, Bool, Result, Ok}
use Rattle.rusty_paseto_paserk.specs.declared.header.PaserkType.{PaserkType}
use Rattle.paseto_keys.specs.Tokens.{IsUse}
use Rattle.paseto_keys.specs.declared.error.KeyError.{KeyError}

-- a key that fits, and takes what is given, is used
pub used : {A E : Type 0} {of_key : KeyError → E} {Fits : Type 0} {kind : PaserkType} {binds given : Bool} {Answers : Result A E → Type 0}
    (done : Unit {0}) (result : Result A E) → IsUse (λ error. error) Fits kind binds given (λ answer. answer ≡ Ok tt) (Ok done)
    → (Fits → (binds ≡ false → given ≡ false) → Answers result) → IsUse of_key Fits kind binds given Answers result
used done result checked answers = record {
  other = λ other. let none = checked.other other in absurd (cc none);
  unbound = λ fits unbound is. let none = checked.unbound fits unbound is in absurd (cc none);
  answer = answers;
}
