use Rattle.std.proofs.Common.{string_bytes, ap, sym, ◌∙◌}
use Rattle.serde_json.specs.View.{members_view}
use Rattle.serde_json.proofs.Views.{members_view-insert_entry}
use Rattle.rusty_paseto_generic.proofs.MergeLemmas.{found_member, not_some}
use Rattle.rusty_paseto_generic.proofs.builders.merging.replace.Goals as goal

pub unreachable-requires : goal.unreachable-requires
unreachable-requires c = not_some _ (sym (found_member (string_bytes c.args.key) c.args.all.now.entries _ (sym c.in-Err.ensures.absent))) c.requires

pub returns-clause-put : goal.returns-clause-put
returns-clause-put c = ap members_view c.in-Ok.ensures.entries ∙ members_view-insert_entry c.args.all.now.entries c.args.key c.args.value
