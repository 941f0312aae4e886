use Rattle.rusty_paseto_core.proofs.SealingLaws.{boxes_hold_one_text}
use Rattle.rusty_paseto_core.proofs.laws.boxes_hold_one_text.Goals as goal

pub returns : goal.returns
returns c = boxes_hold_one_text
