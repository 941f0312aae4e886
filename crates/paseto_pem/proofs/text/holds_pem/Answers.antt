use Rattle.std.proofs.Common.{rules, tests}
use Rattle.std.proofs.lemmas.Iterator.{cases_from_any}
use Rattle.std.proofs.lemmas.Iterator.Splits.{YieldsList-from_lines}
use Rattle.std.specs.Str.Lines.{lines as lines_of}
use Rattle.paseto_pem.specs.Text.{IsBegin}
use Rattle.paseto_pem.proofs.BlockLaws.{any-line}
use Rattle.paseto_pem.proofs.text.holds_pem.Goals as goal

pub returns : goal.returns
returns c =
    let any = cases_from_any _ _ c.any.result IsBegin (λ line. ¬ IsBegin line) c.any.ensures.ran (YieldsList-from_lines c.args.text.now c.lines.ensures.rest)
    (λ x q k. search (rules, tests)) (λ x q k. search (rules, tests)) in
    any-line IsBegin c.any.result (lines_of c.args.text.now) any
