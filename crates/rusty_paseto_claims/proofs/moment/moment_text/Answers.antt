use Rattle.rusty_paseto_claims.proofs.MomentLemmas.{moment_text}
use Rattle.rusty_paseto_claims.proofs.moment.moment_text.Goals as goal

pub returns : goal.returns
returns c = moment_text c.text_in_utc.result c.civil.result c.args.moment.nanosecond c.civil.ensures c.text_in_utc.ensures
