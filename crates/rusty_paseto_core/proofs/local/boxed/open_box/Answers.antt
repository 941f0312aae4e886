use Rattle.std.proofs.Common.{◌≡◌, ◌∙◌}
use Rattle.std.proofs.lemmas.List.{take_rest}
use Rattle.rusty_paseto_core.specs.Context.{bound}
use Rattle.rusty_paseto_core.specs.Local.Boxed.{associated}
use Rattle.rusty_paseto_core.proofs.Unboxed.{found_opening}
use Rattle.rusty_paseto_core.proofs.local.boxed.open_box.Goals as goal

pub returns-clause-ok : goal.returns-clause-ok
returns-clause-ok g c =
    let encoding : c.as_bytes.result.now ≡ associated c.nonce_of-nonce.result c.args.context.now.footer = c.as_bytes.ensures ∙ c.in_ok-associated.ensures.ok in
    found_opening g.B.SealedBox.sealing (bound c.args.key.now c.args.context.now) c.args.payload.now _ _ _ _ c.nonce_of-nonce.ensures encoding
    (take_rest c.args.payload.now 24) c.in_ok-found.ensures
