use Rattle.rusty_paseto_core.proofs.KeystreamLaws.{v1_payloads, v1_shows, v3_payloads, v3_shows, v4_payloads, v4_shows}
use Rattle.rusty_paseto_core.proofs.laws.nonce_reuse_shows.Goals as goal

pub returns : goal.returns
returns c = record { v1 = v1_shows; v3 = v3_shows; v4 = v4_shows; v1_tokens = v1_payloads; v3_tokens = v3_payloads; v4_tokens = v4_payloads }
