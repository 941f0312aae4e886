use Rattle.paseto.specs.ClaimLine.{mismatch_text}
use Rattle.paseto.proofs.Lines.{told_line}
use Rattle.paseto.proofs.commands.claim_line.mismatch.Goals as goal

pub returns-clause-said : goal.returns-clause-said
returns-clause-said c =
    told_line c.format.result c.one_line_of.result (mismatch_text c.args.key.now c.args.found.now c.args.wanted.now) c.told.result
    c.format.ensures.ok c.one_line_of.ensures c.told.ensures.said
