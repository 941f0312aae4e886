use Rattle.std.proofs.lemmas.Int.{to_z-of_z}
use Rattle.paseto_calls.proofs.Replies.{replied, whole_reply}
use Rattle.paseto_c.proofs.claims.paseto_admit_by.Goals as goal

pub returns-clause-answer : goal.returns-clause-answer
returns-clause-answer c = replied _ _ _ _ _ _ _ _ c.admit_by.result (rw (to_z-of_z _ _ c.ranges.now) at c.admit_by.ensures.made) c.hand_over_telling.ensures

pub returns-clause-whole : goal.returns-clause-whole
returns-clause-whole c = whole_reply _ _ _ _ _ _ _ _ c.admit_by.result (rw (to_z-of_z _ _ c.ranges.now) at c.admit_by.ensures.whole) c.hand_over_telling.ensures
