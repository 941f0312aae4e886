use Rattle.paseto_key_files.proofs.LockedLaws.{protected_unlocks}
use Rattle.paseto_key_files.proofs.laws.protected_keys_unlock.Goals as goal

pub returns : goal.returns
returns c = protected_unlocks c.protected_keys_unwrap.ensures.bytes c.protected_keys_unwrap.ensures.private
