use Rattle.rusty_paseto_paserk.proofs.IdLaws.{ids_show}
use Rattle.rusty_paseto_paserk.proofs.laws.equal_ids_show.Goals as goal

pub returns : goal.returns
returns c = ids_show
