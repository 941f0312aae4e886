use Rattle.std.proofs.Common.{subst}
use Rattle.rusty_paseto_core.specs.Context.{Binding}
use Rattle.rusty_paseto_core.specs.Local.Opening.{opening}
use Rattle.rusty_paseto_core.specs.Reading.{IsAnswer}
use Rattle.paseto_tool.proofs.Reasons.{binding_of-given, none_given}
use Rattle.paseto_tool.proofs.local_tokens.open.Goals as goal

pub open-requires : goal.open-requires
open-requires g c = none_given g.V.LocalSuite.design c.args.attachments.implicit_assertion c.requires

pub returns : goal.returns
returns g c =
    let given = c.args.attachments in
    subst (λ (b : Binding). IsAnswer (opening g.V.LocalSuite.design b) c.args.token.now c.open.result)
    (binding_of-given c.args.key.now given.footer given.implicit_assertion) c.open.ensures
