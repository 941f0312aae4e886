use Rattle.std.proofs.Common.{sym, ◌∙◌}
use Rattle.std.proofs.lemmas.Bool.{false≢true}
use Rattle.paseto_pem.specs.Text.{texts}
use Rattle.paseto_pem.proofs.BlockLaws.{no-block}
use Rattle.paseto_pem.proofs.text.refusal.Goals as goal

pub returns-in-None : goal.returns-in-None
returns-in-None c =
    let all = c.in-None.ensures in
    (λ h. no-block (texts c.args.behind.now) h.0 h.1 all h.2, c.is_old_encrypted.ensures.0 c.if-is_old_encrypted.true)

pub returns-in-None-2 : goal.returns-in-None-2
returns-in-None-2 c =
    let all = c.in-None-2.ensures in (
      λ h. no-block (texts c.args.behind.now) h.0 h.1 all h.2,
      λ old. false≢true (sym c.if-is_old_encrypted.false ∙ c.is_old_encrypted.ensures.1 old),
    )
