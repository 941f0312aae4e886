use Rattle.std.proofs.Common.{◌≡◌, ◌-◌, length}
use Rattle.std.proofs.lemmas.List.{take_rest}
use Rattle.rusty_paseto_core.specs.Context.{bound}
use Rattle.rusty_paseto_core.proofs.Tagged.{tag_decides}
use Rattle.rusty_paseto_core.proofs.local.opening.has_tag.Goals as goal

pub returns : goal.returns
returns g c key split =
    let payload = c.args.payload.now in
    let width = c.tag_length.result in
    let own : width ≡ g.V.LocalSuite.design.tag_length = c.tag_length.ensures in
    tag_decides g.V.LocalSuite.design (bound key c.args.context.now) payload width own c.requires.room c.same_bytes.result c.args.nonce.now c.write_tag.new.tag _
    c.requires.nonce (c.write_tag.ensures key split) (take_rest payload (length payload - width)) c.same_bytes.ensures
