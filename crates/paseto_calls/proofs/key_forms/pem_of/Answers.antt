use Rattle.paseto_calls.proofs.key_forms.pem_of.Goals as goal

pub returns-in-V1Secret : goal.returns-in-V1Secret
returns-in-V1Secret c = rw c.in-V1Secret.is c.private_pem.ensures

pub returns-in-V3Secret : goal.returns-in-V3Secret
returns-in-V3Secret c = rw c.in-V3Secret.is c.private_pem-in-V3Secret.ensures

pub returns-in-V4Secret : goal.returns-in-V4Secret
returns-in-V4Secret c = rw c.in-V4Secret.is c.private_pem-in-V4Secret.ensures

pub returns-in-V1Public : goal.returns-in-V1Public
returns-in-V1Public c = rw c.in-V1Public.is c.public_pem.ensures

pub returns-in-V3Public : goal.returns-in-V3Public
returns-in-V3Public c = rw c.in-V3Public.is c.public_pem-in-V3Public.ensures

pub returns-in-V4Public : goal.returns-in-V4Public
returns-in-V4Public c = rw c.in-V4Public.is c.public_pem-in-V4Public.ensures
