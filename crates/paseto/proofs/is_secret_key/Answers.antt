use Rattle.std.proofs.Common.{inl, inr, refl}
use Rattle.rusty_paseto_paserk.specs.declared.header.PaserkType.TheVariants.{Local, Secret}
use Rattle.paseto.proofs.is_secret_key.Goals as goal

pub returns-in-None : goal.returns-in-None
returns-in-None c = λ secret. elim secret.1 [
  | inl local ↦ c.in-None.ensures.none refl secret.0 Local local
  | inr private ↦ c.in-None.ensures.none refl secret.0 Secret private
]
