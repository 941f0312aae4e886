use Rattle.std.proofs.Common.{◌∙◌, ap}
use Rattle.paseto_edwards25519.specs.Field.{number}
use Rattle.paseto_x25519.specs.Ladder.{stepped}
use Rattle.paseto_x25519.proofs.ladder.turned.Goals as goal

pub returns : goal.returns
returns c = c.stepped.ensures ∙ ap (λ n. stepped (number c.args.x1) c.args.bit n) c.swapped.ensures
