use Rattle.std.proofs.Common.{inr, refl}
use Rattle.paseto_wrapping.proofs.KeyLaws.{not_taken}
use Rattle.paseto_wrapping.proofs.keys.private_key.Goals as goal

pub returns-clause-err : goal.returns-clause-err
returns-clause-err g c =
    inr (
      refl,
      not_taken g.V.KeyVersion.paserk g.V.VersionTrait.is_private_key c.args.octets.items c.in_ok-bytes.bytes.items c.try_from.result
          c.in-Err.field-0 c.in-Err.is c.try_from.ensures (rw c.paserk_version.ensures at c.in_ok-bytes.ensures.ok),
    )
