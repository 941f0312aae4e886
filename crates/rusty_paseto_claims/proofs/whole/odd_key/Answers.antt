use Rattle.serde_json.proofs.Views.{view-Object}
use Rattle.rusty_paseto_claims.proofs.OddLemmas.{IsOdd-members}
use Rattle.rusty_paseto_claims.proofs.whole.odd_key.Goals as goal

pub returns-in-Object-clause-first : goal.returns-in-Object-clause-first
returns-in-Object-clause-first c = rw (c.in-Object.is, view-Object c.in-Object.members) (IsOdd-members c.in-Object.members.entries c.find_odd.result c.find_odd.ensures.ordered c.find_odd.ensures.value)
