use Rattle.std.proofs.Common.{refl}
use Rattle.rusty_paseto_primitives.specs.Hkdf.{hkdf}
use Rattle.rusty_paseto_core.proofs.local.v3.V3LocalSuite.split.Goals as goal

pub returns : goal.returns
unfolding hkdf
returns c = (
  rw (c.front.ensures, c.expand-keys.ensures, c.info-encryption_info.ensures, c.hkdf_sha384_extract-pseudorandom_key.ensures) refl,
  rw (c.counter.ensures, c.expand-keys.ensures, c.info-encryption_info.ensures, c.hkdf_sha384_extract-pseudorandom_key.ensures) refl,
  rw (c.expand.ensures, c.info-authentication_info.ensures, c.hkdf_sha384_extract-pseudorandom_key.ensures) refl,
)
