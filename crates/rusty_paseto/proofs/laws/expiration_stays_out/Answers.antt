use Rattle.rusty_paseto.proofs.StaysOut.{expiration_stays_out}
use Rattle.rusty_paseto.proofs.laws.expiration_stays_out.Goals as goal

pub returns : goal.returns
returns c = expiration_stays_out
