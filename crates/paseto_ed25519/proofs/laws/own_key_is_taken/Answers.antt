use Rattle.paseto_ed25519.specs.Ed25519.{secret_scalar}
use Rattle.paseto_edwards_laws.specs.Edwards25519.{base}
use Rattle.paseto_edwards25519.specs.Curve.{multiple}
use Rattle.paseto_ed25519.proofs.SecretLaws.{secret-unit}
use Rattle.paseto_ed25519.proofs.laws.own_key_is_taken.Goals as goal

pub returns : goal.returns
returns c seed = (
  multiple (secret_scalar seed) base,
  c.decoding.ensures (multiple (secret_scalar seed) base) (c.multiples_of_base.ensures (secret_scalar seed)),
  (λ small. secret-unit seed (c.small_multiples.ensures (secret_scalar seed) small)),
)
