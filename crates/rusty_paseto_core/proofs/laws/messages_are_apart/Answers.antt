use Rattle.rusty_paseto_core.proofs.KindLaws.{v1_v2, v1_v3, v1_v4, v2_v3, v2_v4, v3_v4}
use Rattle.rusty_paseto_core.proofs.laws.messages_are_apart.Goals as goal

pub returns : goal.returns
returns c = record { v1_v2 = v1_v2; v1_v3 = v1_v3; v1_v4 = v1_v4; v2_v3 = v2_v3; v2_v4 = v2_v4; v3_v4 = v3_v4 }
