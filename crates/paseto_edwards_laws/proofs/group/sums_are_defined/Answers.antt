use Rattle.paseto_edwards_laws.proofs.CompletenessLaws.{complete}
use Rattle.paseto_edwards_laws.proofs.group.sums_are_defined.Goals as goal

pub returns : goal.returns
returns c = complete
