use Rattle.std.proofs.Common.{inl, inr, refl}
use Rattle.std.proofs.lemmas.Bool.{false≢true}
use Rattle.paseto.proofs.locks.is_key.Goals as goal

pub returns-in-None : goal.returns-in-None
returns-in-None c = λ bare. elim bare [ inl pem ↦ false≢true (c.if-holds_pem.ensures.1 pem) | inr known ↦ c.in-None.ensures.none refl known.0 known.1 known.2 ]
