use Rattle.std.proofs.Common.{None}
use Rattle.std.proofs.lemmas.Map.Text.{btree_map_updates_text}
use Rattle.rusty_paseto.proofs.key_ring.Ring.remove.Goals as goal

pub returns-clause-change : goal.returns-clause-change
returns-clause-change g c =
    btree_map_updates_text c.args.id.now c.args.self.now.keys c.remove.new.self None c.remove.ensures.updates
