use Rattle.paseto_tasks.specs.Spelling.{IsNoSpelling}
use Rattle.paseto_tasks.proofs.Spellings.{all_of, line_there, one_more}
use Rattle.paseto_tasks.proofs.spelling.first_spelling.Goals as goal

pub returns-in-Some-clause-first : goal.returns-in-Some-clause-first
returns-in-Some-clause-first c = record {
  line = _;
  is_there = line_there c.args.lines.now c.each.index _ c.each-test.true;
  spelled = c.in-Some.ensures;
  before = c.each.invariant;
}

pub each-preserved : goal.each-preserved
each-preserved c =
    one_more c.args.lines.now c.each.index _ c.each-test.true (IsNoSpelling c.args.footer.now c.args.token.now) c.each.invariant c.in_default.ensures

pub returns-clause-none : goal.returns-clause-none
returns-clause-none c = λ none. all_of (IsNoSpelling c.args.footer.now c.args.token.now) c.args.lines.now c.each.index c.each-test.false c.each.invariant
