use Rattle.paseto_calls.proofs.Replies.{replied, whole_reply}
use Rattle.paseto_calls.proofs.Taken.{publics_read}
use Rattle.paseto_c.proofs.tokens.paseto_verify.Goals as goal

pub read-requires : goal.read-requires
read-requires c = publics_read

pub returns-clause-answer : goal.returns-clause-answer
returns-clause-answer c = replied _ _ _ _ _ _ _ _ c.read.result c.read.ensures.made c.hand_over_telling.ensures

pub returns-clause-whole : goal.returns-clause-whole
returns-clause-whole c = whole_reply _ _ _ _ _ _ _ _ c.read.result c.read.ensures.whole c.hand_over_telling.ensures
