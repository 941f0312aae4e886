use Rattle.paseto_x25519.proofs.OwnKeyLaws.{own_keys_agree}
use Rattle.paseto_x25519.proofs.laws.own_keys_agree.Goals as goal

pub returns : goal.returns
returns c = own_keys_agree
