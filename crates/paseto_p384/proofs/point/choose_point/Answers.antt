use Rattle.paseto_p384.proofs.point.choose_point.Goals as goal

pub returns-clause-one : goal.returns-clause-one
returns-clause-one c h = cc (c.choose.ensures.one h, c.choose-2.ensures.one h, c.choose-3.ensures.one h)

pub returns-clause-zero : goal.returns-clause-zero
returns-clause-zero c h = cc (c.choose.ensures.zero h, c.choose-2.ensures.zero h, c.choose-3.ensures.zero h)
