use Rattle.paseto_wrapping.proofs.keys.unwrapped_form.Goals as goal

pub returns-in-V1-clause-err : goal.returns-in-V1-clause-err
returns-in-V1-clause-err c = rw c.in-V1.is c.rsa_key.ensures.err
