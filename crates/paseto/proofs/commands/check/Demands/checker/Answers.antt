use Rattle.std.proofs.Common.{◌∙◌, sym}
use Rattle.rusty_paseto_generic.specs.Parsers.Held.{rules_of}
use Rattle.paseto.specs.Check.{demanded}
use Rattle.paseto.proofs.Rulings.{are_demanded}
use Rattle.paseto.proofs.commands.check.Demands.checker.Goals as goal

pub returns-clause-rules : goal.returns-clause-rules
returns-clause-rules g c =
    let made = c.in_ok-parser.ensures in
    are_demanded _ (demanded c.args.self.now) (rules_of c.in_ok-parser.parser.parser.checks) (rules_of c.put_checks.new.parser.parser.checks)
    c.put_requirements.new.parser.parser.checks _ _
    (c.put_requirements.ensures.times.0 ∙ c.put_checks.ensures.times.0 ∙ made.times.0)
    (c.put_requirements.ensures.times.1 ∙ c.put_checks.ensures.times.1 ∙ made.times.1)
    made.checks (rw (sym c.deref.ensures.value) c.in_ok-put_checks.ensures.set) c.in_ok-put_requirements.ensures.set
