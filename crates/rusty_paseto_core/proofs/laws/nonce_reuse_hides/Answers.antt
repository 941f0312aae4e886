use Rattle.rusty_paseto_core.proofs.KeystreamLaws.{reuse_hides}
use Rattle.rusty_paseto_core.proofs.laws.nonce_reuse_hides.Goals as goal

pub returns : goal.returns
returns c = reuse_hides
