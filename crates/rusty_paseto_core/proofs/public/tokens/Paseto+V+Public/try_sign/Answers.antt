use Rattle.rusty_paseto_core.proofs.Signatures.{sign_answer-assertion}
use Rattle.rusty_paseto_core.proofs.public.tokens.Paseto+V+Public.try_sign.Goals as goal

pub returns-clause-answer : goal.returns-clause-answer
returns-clause-answer g c =
    sign_answer-assertion g.V.Signs.valid (g.V.Signs.declined c.args.key.now) g.V.PublicSuite.public_design c.args.key.now (g.V.Signs.partner c.args.key.now)
    c.args.self.now.footer _ c.args.self.now.implicit_assertion _ c.sign.result c.signed_assertion-assertion.ensures.bound c.sign.ensures.answer
