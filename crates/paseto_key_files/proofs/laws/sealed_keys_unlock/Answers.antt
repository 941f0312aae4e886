use Rattle.paseto_key_files.proofs.LockedLaws.{sealed_unlocks}
use Rattle.paseto_key_files.proofs.laws.sealed_keys_unlock.Goals as goal

pub returns : goal.returns
returns c = sealed_unlocks c.sealed_keys_unseal.ensures.unsealed
