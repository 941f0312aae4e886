use Rattle.rusty_paseto_core.proofs.public.tokens.Paseto+V+Public.try_verify.Goals as goal

pub returns : goal.returns
returns g c = c.verify.ensures
