use Rattle.std.proofs.Common.{refl}
use Rattle.std.proofs.lemmas.Bool.{false≢true}
use Rattle.paseto_key_files.proofs.OpeningLaws.{unlocked_line, unlocked_pem}
use Rattle.paseto_key_files.proofs.opening.unlock.Goals as goal

pub returns-then-holds_pem : goal.returns-then-holds_pem
returns-then-holds_pem c =
    unlocked_pem c.args.openers.now c.args.text.now c.line_of_pem.result ((rw c.if-holds_pem.true at c.holds_pem.ensures).0 refl) c.line_of_pem.ensures

pub returns-else-holds_pem : goal.returns-else-holds_pem
returns-else-holds_pem c =
    unlocked_line c.args.openers.now c.args.text.now c.opened.result (λ h. false≢true ((rw c.if-holds_pem.false at c.holds_pem.ensures).1 h)) c.without_line_end.result.now
    c.without_line_end.ensures c.opened.ensures
