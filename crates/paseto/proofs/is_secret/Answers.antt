use Rattle.std.proofs.Common.{arith, MatchBool, Bool, true, false, inr, subst}
use Rattle.paseto.specs.Main.{IsSecretKey}
use Rattle.paseto.proofs.is_secret.Goals as goal

either : {P Q R S : Type 0} (found : Bool) → (P → R) → (Q → S) → MatchBool found P Q → MatchBool found R S
either true f g is = f is
either false f g is = g is

pub returns-else-is_secret_key : goal.returns-else-is_secret_key
returns-else-is_secret_key c =
    let behind = c.in-Some.ensures.byte (omega arith) (λ word found is. is) in
    either c.is_secret_key-else-is_secret_key.result (λ secret. inr (behind.2, subst IsSecretKey behind.1 secret))
    (λ other. (c.if-is_secret_key.ensures, inr (subst (λ text. ¬ IsSecretKey text) behind.1 other))) c.is_secret_key-else-is_secret_key.ensures
