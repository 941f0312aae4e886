use Rattle.std.proofs.Common.{◌≡◌, refl, inr}
use Rattle.rusty_paseto_core.proofs.Kept.{framing_unopened, handed_on, kept_opened, payload_unopened, room_unopened}
use Rattle.rusty_paseto_core.specs.Context.{Binding, bound}
use Rattle.rusty_paseto_core.specs.Local.TagCollision.{case_of}
use Rattle.rusty_paseto_core.proofs.local.tag_collision.open_one.Goals as goal

pub returns-in_err-payload-clause-err : goal.returns-in_err-payload-clause-err
returns-in_err-payload-clause-err g c =
    let context = c.new-context.result in
    let binding : Binding = record { key = c.args.opening.key.now; footer = context.footer; assertion = context.assertion } in
    let own : binding ≡ (case_of c.args.opening).binding = rw c.new-context.ensures refl in
    handed_on _ c.in_err-payload.field-0.0 c.from_residual.result c.from_residual.ensures.1
    (framing_unopened g.V.LocalSuite.design g.met.V.LocalSuite.lawful (case_of c.args.opening) binding _ _ own g.met.V.LocalSuite.has_version
    c.footer.ensures.text c.footer.ensures.bytes c.in_err-payload.field-0.0 c.in_err-payload.ensures.fault)

pub returns-in_err-nonce_and_tag-clause-err : goal.returns-in_err-nonce_and_tag-clause-err
returns-in_err-nonce_and_tag-clause-err g c =
    let context = c.new-context.result in
    let binding : Binding = record { key = c.args.opening.key.now; footer = context.footer; assertion = context.assertion } in
    let own : binding ≡ (case_of c.args.opening).binding = rw c.new-context.ensures refl in
    handed_on _ c.in_err-nonce_and_tag.field-0.0 c.from_residual-in_err-nonce_and_tag.result c.from_residual-in_err-nonce_and_tag.ensures.1
    (room_unopened g.V.LocalSuite.design g.met.V.LocalSuite.lawful (case_of c.args.opening) binding _ _ own g.met.V.LocalSuite.has_version
    c.footer.ensures.text c.footer.ensures.bytes c.in_ok-payload.payload.items c.in_err-nonce_and_tag.field-0.0 c.in_ok-payload.ensures.framed
    (rw c.deref.ensures.value at c.in_err-nonce_and_tag.ensures.err))

pub returns-in_err-text-clause-err : goal.returns-in_err-text-clause-err
returns-in_err-text-clause-err g c =
    let binding : Binding = bound c.as_bytes.result.now c.new-context.result in
    let own : binding ≡ (case_of c.args.opening).binding = rw (c.as_bytes.ensures.bytes, c.new-context.ensures) refl in
    handed_on _ c.in_err-text.field-0.0 c.from_residual-in_err-text.result c.from_residual-in_err-text.ensures.1
    (payload_unopened g.V.LocalSuite.design g.met.V.LocalSuite.lawful (case_of c.args.opening) binding _ _ own g.met.V.LocalSuite.has_version
    c.footer.ensures.text c.footer.ensures.bytes c.in_ok-payload.payload.items c.in_err-text.field-0.0 c.in_ok-payload.ensures.framed
    (inr c.in_err-text.ensures.fault))

pub returns-clause-ok : goal.returns-clause-ok
returns-clause-ok g c =
    let binding : Binding = bound c.as_bytes.result.now c.new-context.result in
    let own : binding ≡ (case_of c.args.opening).binding = rw (c.as_bytes.ensures.bytes, c.new-context.ensures) refl in (
      refl,
      kept_opened g.V.LocalSuite.design g.met.V.LocalSuite.lawful _ binding _ _ c.in_ok-payload.payload.items
          own g.met.V.LocalSuite.has_version c.footer.ensures.text c.footer.ensures.bytes c.in_ok-payload.ensures.framed c.in_ok-text.ensures.holds
          (rw c.deref.ensures.value at c.in_ok-nonce_and_tag.ensures.ok),
    )
