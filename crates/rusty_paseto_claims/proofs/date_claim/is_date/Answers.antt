use Rattle.rusty_paseto_claims.proofs.DateLemmas.{read_date}
use Rattle.rusty_paseto_claims.proofs.date_claim.is_date.Goals as goal

pub returns : goal.returns
returns c = read_date (λ t. t.nanosecond) c.parse.result c.args.text.now c.is_ok.result c.parse.ensures.value c.is_ok.ensures.value
