use Rattle.rusty_paseto_parts.proofs.LimitLemmas.{spelled_length}
use Rattle.rusty_paseto_parts.proofs.laws.spelled_lengths.Goals as goal

pub returns : goal.returns
returns c = spelled_length c.args.bytes.now
