use Rattle.serde_json.specs.View.{members_view}
use Rattle.serde_json.proofs.Views.{view-Object}
use Rattle.rusty_paseto_claims.proofs.WholeLemmas.{none_found}
use Rattle.rusty_paseto_claims.proofs.whole.+whole.Goals as goal

pub is_whole-returns-in-Object : goal.is_whole-returns-in-Object
is_whole-returns-in-Object t c = rw (c.in-Object.is, view-Object c.in-Object.members) (none_found _ _ (members_view c.in-Object.members.entries) c.find_odd.ensures.value c.is_none.ensures)
