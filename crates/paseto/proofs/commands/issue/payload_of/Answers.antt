use Rattle.std.proofs.lemmas.Result.{err_from_is_err_and}
use Rattle.rusty_paseto.specs.Held.{counting}
use Rattle.rusty_paseto_generic.specs.Builders.Held.{held}
use Rattle.paseto.specs.Issue.{ordered}
use Rattle.paseto.proofs.Payloads.{built_makes, never_refuses}
use Rattle.paseto.proofs.commands.issue.payload_of.Goals as goal

pub returns-in_err-builder : goal.returns-in_err-builder
returns-in_err-builder c =
    let never = c.in_err-builder.ensures in
    let p = err_from_is_err_and c.from_residual.result c.from_residual.ensures.1 in
    rw (p.1, p.2) (record {
      printed = tt;
      refused = never_refuses (ordered c.args.order.now) _ c.in_err-builder.field-0.0 never.never never.usage never.said never.blames;
    })

pub returns : goal.returns
returns c =
    let builder = c.in_ok-builder.builder in
    let text = c.build_payload_from_claims.ensures in
    let told = c.built.ensures in
    built_makes (ordered c.args.order.now) _ (counting builder.keys) c.in_ok-builder.ensures.keys (held builder.builder.claims)
    c.build_payload_from_claims.result c.built.result c.in_ok-builder.ensures.claims text.ok text.repeated text.err
    told.value told.refused told.no_usage told.blames told.said
