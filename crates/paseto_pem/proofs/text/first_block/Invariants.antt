use Rattle.std.proofs.Common.{◌≡◌, ◌++◌, List, ℕ, length}
use Rattle.std.specs.Prelude.{All}
use Rattle.paseto_pem.specs.Text.{IsPassed, texts}
use Rattle.paseto_pem.proofs.text.first_block.Given as goal

abbrev pub invariant-each : goal.invariant-each
invariant-each l = (before : List (List ℕ)) × All IsPassed before × (texts l.fn.lines ≡ before ++ texts l.rest)

abbrev pub decreases-each : goal.decreases-each
decreases-each l = length l.rest
