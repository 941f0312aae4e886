use Rattle.paseto_p384.proofs.point.comb.choose_plane.Goals as goal

pub returns-clause-one : goal.returns-clause-one
returns-clause-one c h = cc (c.choose.ensures.one h, c.choose-2.ensures.one h)

pub returns-clause-zero : goal.returns-clause-zero
returns-clause-zero c h = cc (c.choose.ensures.zero h, c.choose-2.ensures.zero h)
