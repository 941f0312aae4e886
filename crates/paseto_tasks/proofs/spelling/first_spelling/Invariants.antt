use Rattle.std.specs.Prelude.{All, take}
use Rattle.paseto_tasks.specs.Spelling.{IsNoSpelling}
use Rattle.paseto_tasks.specs.Arguments.{texts}
use Rattle.paseto_tasks.proofs.spelling.first_spelling.Given as goal

abbrev pub invariant-each : goal.invariant-each
invariant-each l = All (IsNoSpelling l.footer l.token) (take l.index (texts l.lines))
