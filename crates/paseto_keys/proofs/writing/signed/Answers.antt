use Rattle.paseto_keys.proofs.Signed.{signed_answer}
use Rattle.paseto_keys.proofs.writing.signed.Goals as goal

pub returns : goal.returns
returns g c = signed_answer _ g.V.Signs.declined g.V.Signs.partner _ _ _ _ _ c.sign.result c.sign.ensures.answer
