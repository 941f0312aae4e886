use Rattle.std.proofs.Common.{◌≡◌, ◌∙◌, ◌⊎◌, ◌≤◌, ap, ap₂, arith, drop, length, subst, ℕ, List, Option}
use Rattle.std.proofs.lemmas.List.{take_rest}
use Rattle.std.specs.String.{string_bytes}
use Rattle.rusty_paseto_parts.specs.Error.{IsMemory}
use Rattle.rusty_paseto_parts.specs.declared.texts.implicit_assertion.ImplicitAssertion.{ImplicitAssertion}
use Rattle.rusty_paseto_primitives.specs.Bytes.{IsBytes}
use Rattle.rusty_paseto_core.specs.Context.{Binding, Context, binding_of, bound}
use Rattle.rusty_paseto_core.specs.Local.TagCollision.{Case}
use Rattle.rusty_paseto_core.specs.Public.{message}
use Rattle.rusty_paseto_core.specs.Public.SignatureForgery.{signed_case}
use Rattle.rusty_paseto_core.specs.Public.Verifying.{verification}
use Rattle.rusty_paseto_core.specs.Reading.{IsFault, IsRead}
use Rattle.rusty_paseto_core.proofs.Kept.{handed_on}
use Rattle.rusty_paseto_core.proofs.SignatureForgeries.{bound_is, fault_unverified, framed_for, framing_unverified, signed_from, text_within}
use Rattle.rusty_paseto_core.proofs.public.signature_forgery.signed.Goals as goal

pub returns-in_err-text-clause-err : goal.returns-in_err-text-clause-err
returns-in_err-text-clause-err g c =
    let valid = g.V.Verifies.valid in
    let refused = g.V.Verifies.refused in
    let design = g.V.PublicSuite.public_design in
    let asked = c.args.asked in
    let case : Case = signed_case design c.args.key.now asked in
    let error = c.in_err-text.field-0.0 in
    let assertion : Option ImplicitAssertion = c.signed_assertion-assertion.result in
    let own : binding_of c.args.key.now asked.footer assertion ≡ case.binding =
    ap (λ (a : Option ImplicitAssertion). binding_of c.args.key.now asked.footer a)
    (bound_is design.binds_assertion asked.assertion assertion c.signed_assertion-assertion.ensures.bound c.signed_assertion-assertion.ensures.none) in
    let bytes : IsBytes case.binding.footer = rw c.new-context.ensures at c.footer-footer.ensures.bytes in
    let fault : IsMemory error ⊎ IsFault (verification valid refused design case.binding) case.token error =
    subst (λ (b : Binding). IsMemory error ⊎ IsFault (verification valid refused design b) case.token error) own c.in_err-text.ensures.fault in
    handed_on _ error c.from_residual.result c.from_residual.ensures.1
    (fault_unverified valid refused design g.met.V.PublicSuite.public_lawful.is_header case bytes error fault)

pub returns-in_err-payload-clause-err : goal.returns-in_err-payload-clause-err
returns-in_err-payload-clause-err g c =
    let valid = g.V.Verifies.valid in
    let refused = g.V.Verifies.refused in
    let design = g.V.PublicSuite.public_design in
    let law = g.met.V.PublicSuite.public_lawful in
    let case : Case = signed_case design c.args.key.now c.args.asked in
    let error = c.in_err-payload.field-0.0 in
    let bytes : IsBytes case.binding.footer = rw c.new-context.ensures at c.footer-footer.ensures.bytes in
    let footer : c.footer-footer.result.now ≡ case.binding.footer =
    c.footer-footer.ensures.text ∙ ap (λ (context : Context). context.footer) c.new-context.ensures in
    handed_on _ error c.from_residual-in_err-payload.result c.from_residual-in_err-payload.ensures.1
    (framing_unverified valid refused design law.is_header case bytes _ _ error law.has_version footer c.in_err-payload.ensures.fault)

pub returns-clause-ok : goal.returns-clause-ok
returns-clause-ok g c =
    let valid = g.V.Verifies.valid in
    let refused = g.V.Verifies.refused in
    let design = g.V.PublicSuite.public_design in
    let law = g.met.V.PublicSuite.public_lawful in
    let asked = c.args.asked in
    let case : Case = signed_case design c.args.key.now asked in
    let text = string_bytes c.in_ok-text.text in
    let payload = c.in_ok-payload.payload.items in
    let assertion : Option ImplicitAssertion = c.signed_assertion-assertion.result in
    let own : binding_of c.args.key.now asked.footer assertion ≡ case.binding =
    ap (λ (a : Option ImplicitAssertion). binding_of c.args.key.now asked.footer a)
    (bound_is design.binds_assertion asked.assertion assertion c.signed_assertion-assertion.ensures.bound c.signed_assertion-assertion.ensures.none) in
    let read : IsRead (verification valid refused design case.binding) case.token text =
    subst (λ (b : Binding). IsRead (verification valid refused design b) case.token text) own c.in_ok-text.ensures.read in
    let bytes : IsBytes case.binding.footer = rw c.new-context.ensures at c.footer-footer.ensures.bytes in
    let footer : c.footer-footer.result.now ≡ case.binding.footer =
    c.footer-footer.ensures.text ∙ ap (λ (context : Context). context.footer) c.new-context.ensures in
    let framed = framed_for valid refused design law.is_header case bytes _ _ payload law.has_version footer c.in_ok-payload.ensures.framed in
    let bound_as : bound c.as_bytes.result.now c.new-context.result ≡ case.binding =
    ap₂ bound c.as_bytes.ensures.bytes c.new-context.ensures ∙ own in
    let signed : c.in_ok-message.message ≡ message design case.binding text =
    c.in_ok-message.ensures.ok ∙ ap₂ (message design) bound_as c.as_bytes-2.ensures.value in
    let size : c.len.result ≡ length text = omega (arith, c.len.ensures, c.in_ok-text.text.bytes.ok.0) in
    let rest : c.in_ok-signature.signature.items ≡ drop (length text) payload =
    c.in_ok-signature.ensures.items ∙ take_rest c.deref.result.now c.len.result
    ∙ ap₂ (λ (n : ℕ) (p : List ℕ). drop n p) size c.deref.ensures.value in
    signed_from valid refused design law.is_header case bytes text read payload framed _ signed c.in_ok-message.ensures.fits rest

pub slice_bounds-from_slice-count : goal.slice_bounds-from_slice-count
slice_bounds-from_slice-count g c =
    let valid = g.V.Verifies.valid in
    let refused = g.V.Verifies.refused in
    let design = g.V.PublicSuite.public_design in
    let law = g.met.V.PublicSuite.public_lawful in
    let asked = c.args.asked in
    let case : Case = signed_case design c.args.key.now asked in
    let text = string_bytes c.in_ok-text.text in
    let payload = c.in_ok-payload.payload.items in
    let assertion : Option ImplicitAssertion = c.signed_assertion-assertion.result in
    let own : binding_of c.args.key.now asked.footer assertion ≡ case.binding =
    ap (λ (a : Option ImplicitAssertion). binding_of c.args.key.now asked.footer a)
    (bound_is design.binds_assertion asked.assertion assertion c.signed_assertion-assertion.ensures.bound c.signed_assertion-assertion.ensures.none) in
    let read : IsRead (verification valid refused design case.binding) case.token text =
    subst (λ (b : Binding). IsRead (verification valid refused design b) case.token text) own c.in_ok-text.ensures.read in
    let bytes : IsBytes case.binding.footer = rw c.new-context.ensures at c.footer-footer.ensures.bytes in
    let footer : c.footer-footer.result.now ≡ case.binding.footer =
    c.footer-footer.ensures.text ∙ ap (λ (context : Context). context.footer) c.new-context.ensures in
    let framed = framed_for valid refused design law.is_header case bytes _ _ payload law.has_version footer c.in_ok-payload.ensures.framed in
    let within : length text ≤ length payload = text_within valid refused design law.is_header case bytes text read payload framed in
    let size : c.len.result ≡ length text = omega (arith, c.len.ensures, c.in_ok-text.text.bytes.ok.0) in
    let same : length c.deref.result.now ≡ length payload = ap (λ (l : List ℕ). length l) c.deref.ensures.value in
    omega (arith, within, size, same)

pub slice_bounds-from_slice-start : goal.slice_bounds-from_slice-start
slice_bounds-from_slice-start g c =
    let valid = g.V.Verifies.valid in
    let refused = g.V.Verifies.refused in
    let design = g.V.PublicSuite.public_design in
    let law = g.met.V.PublicSuite.public_lawful in
    let asked = c.args.asked in
    let case : Case = signed_case design c.args.key.now asked in
    let text = string_bytes c.in_ok-text.text in
    let payload = c.in_ok-payload.payload.items in
    let assertion : Option ImplicitAssertion = c.signed_assertion-assertion.result in
    let own : binding_of c.args.key.now asked.footer assertion ≡ case.binding =
    ap (λ (a : Option ImplicitAssertion). binding_of c.args.key.now asked.footer a)
    (bound_is design.binds_assertion asked.assertion assertion c.signed_assertion-assertion.ensures.bound c.signed_assertion-assertion.ensures.none) in
    let read : IsRead (verification valid refused design case.binding) case.token text =
    subst (λ (b : Binding). IsRead (verification valid refused design b) case.token text) own c.in_ok-text.ensures.read in
    let bytes : IsBytes case.binding.footer = rw c.new-context.ensures at c.footer-footer.ensures.bytes in
    let footer : c.footer-footer.result.now ≡ case.binding.footer =
    c.footer-footer.ensures.text ∙ ap (λ (context : Context). context.footer) c.new-context.ensures in
    let framed = framed_for valid refused design law.is_header case bytes _ _ payload law.has_version footer c.in_ok-payload.ensures.framed in
    let within : length text ≤ length payload = text_within valid refused design law.is_header case bytes text read payload framed in
    let size : c.len.result ≡ length text = omega (arith, c.len.ensures, c.in_ok-text.text.bytes.ok.0) in
    let same : length c.deref.result.now ≡ length payload = ap (λ (l : List ℕ). length l) c.deref.ensures.value in
    omega (arith, within, size, same)
