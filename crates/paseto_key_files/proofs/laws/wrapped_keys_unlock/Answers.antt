use Rattle.paseto_key_files.proofs.LockedLaws.{wrapped_unlocks}
use Rattle.paseto_key_files.proofs.laws.wrapped_keys_unlock.Goals as goal

pub returns : goal.returns
returns c = wrapped_unlocks c.wrapped_keys_unwrap.ensures.bytes c.wrapped_keys_unwrap.ensures.private
