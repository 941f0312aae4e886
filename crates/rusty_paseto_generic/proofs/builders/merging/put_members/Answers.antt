use Rattle.serde_json.specs.View.{members_view}
use Rattle.rusty_paseto_generic.proofs.MergeLemmas.{ascends_view, merged_all}
use Rattle.rusty_paseto_generic.proofs.builders.merging.put_members.Goals as goal

pub returns-clause-ok : goal.returns-clause-ok
returns-clause-ok c =
    let own = c.args.members.now.entries in
    let more = c.args.others.entries in
    let done = c.fill.new.all.entries in
    merged_all (members_view own) (members_view more) (members_view c.reserve.new.others.entries) (members_view done)
    (ascends_view own c.in_ok-reserve.ensures.own) (ascends_view more c.requires.ordered) (ascends_view done c.fill.ensures.ordered)
    c.in_ok-reserve.ensures.ok (rw (c.replace-own.ensures.value, c.replace-own.ensures.after) at c.fill.ensures.filled)
