use Rattle.std.proofs.Common.{Some, string_bytes}
use Rattle.std.proofs.lemmas.Map.Text.{btree_map_updates_text}
use Rattle.rusty_paseto.proofs.key_ring.Ring.put.Goals as goal

pub returns-clause-ok : goal.returns-clause-ok
returns-clause-ok g c =
    btree_map_updates_text (string_bytes c.args.id) c.args.self.now.keys c.insert.new.self (Some c.args.key) c.in_ok-insert.ensures.updates
