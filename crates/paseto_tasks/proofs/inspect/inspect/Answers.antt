use Rattle.std.proofs.Common.{inl, inr, refl, rules}
use Rattle.paseto_tasks.specs.TokenKind.{NamesKind}
use Rattle.paseto_tasks.specs.declared.token_kind.TokenKind.TheVariants.{Other}
use Rattle.paseto_tasks.proofs.Inspections.{no_lines, or_no_lines}
use Rattle.paseto_tasks.proofs.inspect.inspect.Goals as goal

pub returns-then-eq-clause-refused : goal.returns-then-eq-clause-refused
returns-then-eq-clause-refused c =
    let other : NamesKind Other c.args.text.now = search rules in
    inr (no_lines c.args.text.now ((rw c.in_default.is at c.in_ok-line.ensures.none) refl) (inl other))

pub returns-clause-refused : goal.returns-clause-refused
returns-clause-refused c = or_no_lines c.args.text.now c.token_lines.result ((rw c.in_default.is at c.in_ok-line.ensures.none) refl) c.token_lines.ensures.refused
