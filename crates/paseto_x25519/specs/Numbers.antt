-- The numbers that the ladder's elements of the field are.
use Rattle.paseto_edwards25519.specs.Field.{number}
use Rattle.paseto_x25519.specs.Ladder.{Numbers as LadderNumbers}
use Rattle.paseto_x25519.specs.declared.ladder.numbers.Numbers.{Numbers}

abbrev pub numbers : Numbers → LadderNumbers
numbers n = record { x2 = number n.x2; z2 = number n.z2; x3 = number n.x3; z3 = number n.z3; swap = n.swap }
