use Rattle.std.proofs.Common.{false, refl}
use Rattle.std.proofs.lemmas.Map.Text.{btree_set_updates_text}
use Rattle.rusty_paseto.proofs.keys.Keys.take_out.Goals as goal

pub returns : goal.returns
returns c = record { is_counted = btree_set_updates_text c.args.key.now _ _ false c.remove.ensures.updates; repeated = refl }
