use Rattle.paseto_p384.specs.P384.{signed_by}
use Rattle.paseto_p384.proofs.p384.signed_by.Goals as goal

pub returns : goal.returns
unfolding signed_by
returns c private message d e = rw (d, e, c.from_octets.ensures) at c.attempt.ensures
