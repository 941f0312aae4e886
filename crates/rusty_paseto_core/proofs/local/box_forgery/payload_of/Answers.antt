use Rattle.std.proofs.Common.{◌≡◌, ◌∙◌, ◌⊎◌, ap, arith, subst, ℕ, List}
use Rattle.std.specs.String.{string_bytes}
use Rattle.rusty_paseto_primitives.specs.Bytes.{IsBytes}
use Rattle.rusty_paseto_core.specs.Context.{Context, binding_of, bound}
use Rattle.rusty_paseto_parts.specs.Error.{IsMemory}
use Rattle.rusty_paseto_core.specs.Local.{local}
use Rattle.rusty_paseto_core.specs.Local.Boxed.{HoldsBoxed, IsBoxedFault, v2}
use Rattle.rusty_paseto_core.specs.Local.TagCollision.{Case}
use Rattle.rusty_paseto_core.specs.Reading.{IsFramed}
use Rattle.std.specs.Prelude.{None}
use Rattle.rusty_paseto_core.proofs.BoxForgeries.{box_opened, framing_unopened, payload_unopened}
use Rattle.rusty_paseto_core.proofs.Kept.{handed_on}
use Rattle.rusty_paseto_core.proofs.local.box_forgery.payload_of.Goals as goal

pub returns-in_err-payload-clause-err : goal.returns-in_err-payload-clause-err
returns-in_err-payload-clause-err g c =
    let case : Case = record { token = c.args.token.now; binding = binding_of c.args.key.now c.args.footer None } in
    let bytes : IsBytes case.binding.footer = rw c.new-context.ensures at c.footer.ensures.bytes in
    let footer : c.footer.result.now ≡ case.binding.footer =
    c.footer.ensures.text ∙ ap (λ (context : Context). context.footer) c.new-context.ensures in
    let error = c.in_err-payload.field-0.0 in
    handed_on _ error c.from_residual.result c.from_residual.ensures.1
    (framing_unopened g.B.SealedBox.sealing g.met.B.SealedBox.lawful case (omega arith) c.fits-key bytes _ error footer c.in_err-payload.ensures.fault)

pub returns-in_err-text-clause-err : goal.returns-in_err-text-clause-err
returns-in_err-text-clause-err g c =
    let box = g.B.SealedBox.sealing in
    let case : Case = record { token = c.args.token.now; binding = binding_of c.args.key.now c.args.footer None } in
    let bytes : IsBytes case.binding.footer = rw c.new-context.ensures at c.footer.ensures.bytes in
    let footer : c.footer.result.now ≡ case.binding.footer =
    c.footer.ensures.text ∙ ap (λ (context : Context). context.footer) c.new-context.ensures in
    let framed : IsFramed v2 local case.binding.footer case.token c.in_ok-payload.payload.items =
    subst (λ (f : List ℕ). IsFramed v2 local f case.token c.in_ok-payload.payload.items) footer c.in_ok-payload.ensures.framed in
    let error = c.in_err-text.field-0.0 in
    let fault : IsMemory error ⊎ IsBoxedFault box case.binding c.in_ok-payload.payload.items error =
    subst (λ (p : List ℕ). IsMemory error ⊎ IsBoxedFault box case.binding p error) c.deref.ensures.value
    (subst (λ (context : Context). IsMemory error ⊎ IsBoxedFault box (bound c.args.key.now context) c.deref.result.now error) c.new-context.ensures
    c.in_err-text.ensures.fault) in
    handed_on _ error c.from_residual-in_err-text.result c.from_residual-in_err-text.ensures.1
    (payload_unopened box g.met.B.SealedBox.lawful case (omega arith) c.fits-key bytes c.in_ok-payload.payload.items framed error fault)

pub returns-clause-ok : goal.returns-clause-ok
returns-clause-ok g c =
    let box = g.B.SealedBox.sealing in
    let case : Case = record { token = c.args.token.now; binding = binding_of c.args.key.now c.args.footer None } in
    let text = string_bytes c.in_ok-text.text in
    let bytes : IsBytes case.binding.footer = rw c.new-context.ensures at c.footer.ensures.bytes in
    let footer : c.footer.result.now ≡ case.binding.footer =
    c.footer.ensures.text ∙ ap (λ (context : Context). context.footer) c.new-context.ensures in
    let framed : IsFramed v2 local case.binding.footer case.token c.in_ok-payload.payload.items =
    subst (λ (f : List ℕ). IsFramed v2 local f case.token c.in_ok-payload.payload.items) footer c.in_ok-payload.ensures.framed in
    let holds : HoldsBoxed box case.binding c.in_ok-payload.payload.items text =
    subst (λ (p : List ℕ). HoldsBoxed box case.binding p text) c.deref.ensures.value
    (subst (λ (context : Context). HoldsBoxed box (bound c.args.key.now context) c.deref.result.now text) c.new-context.ensures
    c.in_ok-text.ensures.holds) in
    box_opened box g.met.B.SealedBox.lawful case (omega arith) c.fits-key bytes c.in_ok-payload.payload.items framed text holds
