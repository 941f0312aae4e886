use Rattle.paseto_ed25519.proofs.UniquenessLaws.{one_s, v2_one_payload, v4_one_payload}
use Rattle.paseto_ed25519.proofs.laws.signatures_have_one_s.Goals as goal

pub returns : goal.returns
returns c = record { signatures = one_s; v2 = v2_one_payload; v4 = v4_one_payload }
