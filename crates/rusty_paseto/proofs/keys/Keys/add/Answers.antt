use Rattle.std.proofs.Common.{true, refl, string_bytes}
use Rattle.std.proofs.lemmas.Map.Text.{btree_set_updates_text}
use Rattle.rusty_paseto.proofs.keys.Keys.add.Goals as goal

pub returns-clause-ok : goal.returns-clause-ok
returns-clause-ok c =
    record { is_counted = btree_set_updates_text (string_bytes c.args.key) _ _ true c.in_ok-insert.ensures.updates; repeated = refl }
