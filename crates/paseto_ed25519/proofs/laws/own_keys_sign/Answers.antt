use Rattle.std.proofs.Common.{inl, inr}
use Rattle.paseto_ed25519.proofs.laws.own_keys_sign.Goals as goal

pub returns : goal.returns
returns c private message error size signed declined = elim declined [
  | inl short ↦ short.0 size
  | inr none ↦ none.2 signed
]
