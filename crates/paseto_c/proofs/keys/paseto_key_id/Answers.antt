use Rattle.paseto_calls.proofs.Replies.{replied, whole_reply}
use Rattle.paseto_c.proofs.keys.paseto_key_id.Goals as goal

pub returns-clause-answer : goal.returns-clause-answer
returns-clause-answer c = replied _ _ _ _ _ _ _ _ c.id.result c.id.ensures.made c.hand_over_telling.ensures

pub returns-clause-whole : goal.returns-clause-whole
returns-clause-whole c = whole_reply _ _ _ _ _ _ _ _ c.id.result c.id.ensures.whole c.hand_over_telling.ensures
