use Rattle.paseto_xchacha20poly1305.proofs.KeystreamLaws.{boxes_show}
use Rattle.paseto_xchacha20poly1305.proofs.laws.nonce_reuse_shows.Goals as goal

pub returns : goal.returns
returns c = boxes_show
