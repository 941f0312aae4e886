use Rattle.std.proofs.Common.{refl}
use Rattle.paseto_tasks.proofs.Inspections.{inspects}
use Rattle.paseto_tasks.proofs.inspect.token_lines.Goals as goal

pub returns-clause-printed : goal.returns-clause-printed
returns-clause-printed c =
    let said = c.in_ok-push_text_line.ensures.appended in
    inspects c.args.token.now _ _ _ _ c.in_ok-untrusted.untrusted said.0 _ _ _ _ _ c.utf8.token (c.in_ok-untrusted.ensures.count.0 refl)
    c.in_ok-untrusted.ensures.kept c.version-version.ensures c.purpose-purpose.ensures c.in_ok-payload.ensures.third c.in_ok-footer.ensures.ok said.1
    c.new-lines.ensures.bytes c.in_ok-push_line.ensures c.in_ok-push_line-2.ensures c.in_ok-push_footer.ensures said.2
