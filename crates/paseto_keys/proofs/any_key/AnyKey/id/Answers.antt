use Rattle.paseto_keys.proofs.any_key.AnyKey.id.Goals as goal

pub returns-in-V1Secret : goal.returns-in-V1Secret
returns-in-V1Secret c = rw c.in-V1Secret.is (rw c.lend.ensures at c.rsa_secret_id.ensures)

pub returns-in-V2Secret : goal.returns-in-V2Secret
returns-in-V2Secret c = rw c.in-V2Secret.is (rw c.lend-in-V2Secret.ensures at c.secret_id.ensures)

pub returns-in-V3Secret : goal.returns-in-V3Secret
returns-in-V3Secret c = rw c.in-V3Secret.is (rw c.lend-in-V3Secret.ensures at c.secret_id-in-V3Secret.ensures)

pub returns-in-V4Secret : goal.returns-in-V4Secret
returns-in-V4Secret c = rw c.in-V4Secret.is (rw c.lend-in-V4Secret.ensures at c.secret_id-in-V4Secret.ensures)

pub returns-in-V1Public : goal.returns-in-V1Public
returns-in-V1Public c = rw c.in-V1Public.is (rw c.lend-in-V1Public.ensures at c.rsa_public_id.ensures)
