use Rattle.std.proofs.Common.{refl}
use Rattle.rusty_paseto_core.proofs.local.v4.V4LocalSuite.split.Goals as goal

pub returns : goal.returns
returns c = (
  rw (c.encryption_key.ensures, c.blake2b_keyed_pair.ensures.first, c.info-encryption_info.ensures) refl,
  rw (c.stream_nonce.ensures, c.blake2b_keyed_pair.ensures.first, c.info-encryption_info.ensures) refl,
  rw (c.blake2b_keyed_pair.ensures.second, c.info-authentication_info.ensures) refl,
)
