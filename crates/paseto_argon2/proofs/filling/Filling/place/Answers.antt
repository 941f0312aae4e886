use Rattle.std.proofs.Common.{◌*◌}
use Rattle.paseto_argon2.proofs.Memory.{place_within}
use Rattle.paseto_argon2.proofs.filling.Filling.place.Goals as goal

pub returns-clause-within : goal.returns-clause-within
returns-clause-within c =
    let self = c.args.self.now in
    rw c.columns.ensures (place_within c.args.lane c.args.column self.lanes (4 * self.segment) c.requires.lane c.requires.column)
