use Rattle.std.proofs.Common.{refl}
use Rattle.paseto_key_files.proofs.OpeningLaws.{kept_line, opened_line}
use Rattle.paseto_key_files.proofs.opening.opened.Goals as goal

pub returns-in-Some : goal.returns-in-Some
returns-in-Some c = opened_line c.args.openers.now c.args.text.now c.in-Some.version c.in-Some.kind (_, c.in-Some.ensures.found) c.opened_as.result c.opened_as.ensures

pub returns-in-None : goal.returns-in-None
returns-in-None c = kept_line c.args.openers.now c.args.text.now (c.in-None.ensures.none refl) c.same_line.result c.same_line.ensures.ok c.same_line.ensures.err
