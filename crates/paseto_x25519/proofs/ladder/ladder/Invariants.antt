use Rattle.std.proofs.Common.{◌≡◌, ◌+◌, ◌*◌, ◌^◌}
use Rattle.paseto_edwards25519.specs.Field.{number}
use Rattle.paseto_x25519.specs.Ladder.{turns}
use Rattle.paseto_x25519.specs.Numbers.{numbers}
use Rattle.paseto_x25519.proofs.ladder.ladder.Given as goal

abbrev pub invariant-turns : goal.invariant-turns
invariant-turns l = numbers l.n ≡ turns (l.fn.k.0 + 2 ^ 128 * l.fn.k.1) (number l.fn.x1) l.t
