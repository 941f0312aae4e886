use Rattle.paseto_calls.proofs.Replies.{key_replied, whole_key_reply}
use Rattle.paseto_c.proofs.keys.paseto_key_read.Goals as goal

pub returns-clause-answer : goal.returns-clause-answer
returns-clause-answer c = key_replied _ _ _ _ _ _ _ c.read_key.result c.read_key.ensures.made c.hand_over_held.ensures

pub returns-clause-whole : goal.returns-clause-whole
returns-clause-whole c = whole_key_reply _ _ _ _ _ _ _ c.read_key.result c.read_key.ensures.whole c.hand_over_held.ensures
