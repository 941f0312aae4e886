use Rattle.std.proofs.Common.{refl}
use Rattle.paseto_tool.proofs.Inspections.{inspects-none, inspects-read}
use Rattle.paseto_tool.proofs.inspect.Inspection.lines.Goals as goal

pub returns-in_default-clause-printed : goal.returns-in_default-clause-printed
returns-in_default-clause-printed c =
    let has = c.in_ok-text.ensures.ok in
    inspects-none c.args.self.now.token.now c.in_ok-untrusted.untrusted c.in_ok-untrusted.ensures.kept (c.in_ok-untrusted.ensures.count.0 refl)
    _ _ _ c.version-version.ensures c.purpose-purpose.ensures (rw c.in_default.is at has) c.in_ok-format.ensures.ok

pub returns-clause-printed : goal.returns-clause-printed
returns-clause-printed c =
    let has = c.in_ok-text.ensures.ok in
    inspects-read c.args.self.now.token.now c.in_ok-untrusted.untrusted c.in_ok-untrusted.ensures.kept (c.in_ok-untrusted.ensures.count.0 refl)
    _ _ _ _ c.footer_base64.result _ c.version-version.ensures c.purpose-purpose.ensures refl c.footer_base64.ensures (rw c.in-Some.is at has)
    (rw c.unwrap_or-section.ensures at c.in_ok-format-2.ensures.ok)
