use Rattle.paseto_x25519.proofs.agreement.public_key.Goals as goal

pub returns : goal.returns
returns c = c.x25519.ensures
