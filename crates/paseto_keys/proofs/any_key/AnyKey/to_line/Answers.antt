use Rattle.paseto_keys.proofs.any_key.AnyKey.to_line.Goals as goal

pub returns-in-V1Secret : goal.returns-in-V1Secret
returns-in-V1Secret c = rw c.in-V1Secret.is c.rsa_private_line.ensures

pub returns-in-V1Public : goal.returns-in-V1Public
returns-in-V1Public c = rw c.in-V1Public.is c.rsa_public_line.ensures
