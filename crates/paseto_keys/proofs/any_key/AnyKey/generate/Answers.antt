use Rattle.paseto_keys.proofs.any_key.AnyKey.generate.Goals as goal

pub returns-in-Local-default : goal.returns-in-Local-default
returns-in-Local-default g c = rw c.in-Local-default.is-0 c.new_local.ensures

pub returns-in-Secret-V2 : goal.returns-in-Secret-V2
returns-in-Secret-V2 g c = rw (c.in-Secret-V2.is-0, c.in-Secret-V2.is-1) c.new_ed25519.ensures

pub returns-in-Secret-V3 : goal.returns-in-Secret-V3
returns-in-Secret-V3 g c = rw (c.in-Secret-V3.is-0, c.in-Secret-V3.is-1) c.new_p384.ensures

pub returns-in-Secret-V4 : goal.returns-in-Secret-V4
returns-in-Secret-V4 g c = rw (c.in-Secret-V4.is-0, c.in-Secret-V4.is-1) c.new_ed25519-in-Secret-V4.ensures
