use Rattle.rusty_paseto_core.proofs.KindLaws.{one_kind}
use Rattle.rusty_paseto_core.proofs.laws.tokens_have_one_kind.Goals as goal

pub returns : goal.returns
returns c = one_kind
