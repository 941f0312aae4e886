use Rattle.std.proofs.Common.{ℕ, List, ap}
use Rattle.paseto_tool.proofs.Reasons.{IfOk-sealing, binding_of-given, is_some-given, none_given}
use Rattle.paseto_tool.proofs.local_tokens.seal.Goals as goal

pub seal-requires : goal.seal-requires
seal-requires g c = none_given g.V.LocalSuite.design c.args.attachments.implicit_assertion c.requires

pub returns-clause-ok : goal.returns-clause-ok
returns-clause-ok g c =
    let given = c.args.attachments in
    IfOk-sealing g.V.LocalSuite.design c.seal.result _ _ _ _ _ _ _ _ (binding_of-given c.args.key.now given.footer given.implicit_assertion)
    (ap (λ (t : List ℕ). g.V.LocalSuite.design.token_nonce c.args.nonce.now t) c.from-payload.ensures) (is_some-given given.footer)
    c.from-payload.ensures c.seal.ensures.ok
