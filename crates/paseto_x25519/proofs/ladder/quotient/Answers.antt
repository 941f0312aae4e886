use Rattle.std.proofs.Common.{◌-◌, ◌∙◌, ap}
use Rattle.paseto_edwards_laws.specs.Edwards25519.{prime}
use Rattle.paseto_edwards25519.specs.Field.{number, power, times}
use Rattle.paseto_x25519.specs.Ladder.{quotient}
use Rattle.paseto_x25519.proofs.ladder.quotient.Goals as goal

pub returns-clause-value : goal.returns-clause-value
unfolding quotient
returns-clause-value c =
    c.mul.ensures.value ∙ ap (λ z. times (number c.swapped-last.result.x2) z) c.inverse.ensures.value
    ∙ ap (λ l. times l.x2 (power l.z2 (prime - 2))) c.swapped-last.ensures
