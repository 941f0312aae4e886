use Rattle.paseto_p384.proofs.TwinLaws.{has_a_twin, tokens_have_a_twin}
use Rattle.paseto_p384.proofs.laws.signatures_have_a_twin.Goals as goal

pub returns : goal.returns
returns c = record { signatures = has_a_twin; tokens = tokens_have_a_twin }
