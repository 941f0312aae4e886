use Rattle.rusty_paseto_paserk.proofs.KindLaws.{one_key_kind}
use Rattle.rusty_paseto_paserk.proofs.laws.keys_have_one_kind.Goals as goal

pub returns : goal.returns
returns c = one_key_kind
