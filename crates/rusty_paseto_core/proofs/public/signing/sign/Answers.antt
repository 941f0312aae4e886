use Rattle.std.proofs.Common.{◌≡◌, ◌∙◌, List, ℕ, refl, sym, ap}
use Rattle.std.proofs.lemmas.Result.{err_from_is_err_and}
use Rattle.rusty_paseto_parts.specs.Header.{header_text}
use Rattle.rusty_paseto_core.specs.Context.{Binding, binding_of, bound}
use Rattle.rusty_paseto_core.specs.Public.{header, message, public}
use Rattle.rusty_paseto_core.proofs.Signatures.{framed_signing, memory_or, message-key, signed_payload}
use Rattle.rusty_paseto_core.proofs.public.signing.sign.Goals as goal

pub returns-clause-answer : goal.returns-clause-answer
returns-clause-answer g c =
    let valid = g.S.SignatureScheme.valid in
    let design = g.V.PublicSuite.public_design in
    let partner = g.S.SignatureScheme.partner c.args.private.now in
    let own : Binding = binding_of partner c.args.footer c.args.assertion in
    let asked : message design (bound c.args.public.now c.new-context.result) c.as_bytes-text.result.now ≡ message design own c.args.text.now =
    rw (c.new-context.ensures, c.as_bytes-text.ensures.value) (message-key design c.args.public.now partner own.footer own.assertion c.args.text.now c.requires.partner) in
    let made = rw c.as_bytes-text.ensures.value at c.in_ok-payload.ensures.ok in
    let signed = signed_payload valid design own c.args.text.now _ _ _ made c.requires.size (c.as_bytes.ensures ∙ c.in_ok-message.ensures.ok ∙ asked) in
    let own_header : c.as_str.result.now ≡ header design =
    c.as_str.ensures ∙ ap (λ (v : List ℕ). header_text v public) (sym g.met.V.PublicSuite.public_lawful.has_version) in
    let framed = simp c.deref.ensures.value at c.frame.ensures.ok in
    record {
      ok = framed_signing valid design own _ c.args.text.now _ _ _ c.frame.result signed own_header refl framed;
      private_length = λ other. absurd (other (c.has_private_length.ensures.0 c.if-not-has_private_length.false));
      err = λ own_length. memory_or _ c.frame.result c.frame.ensures.err;
    }

pub returns-in_err-payload-clause-answer : goal.returns-in_err-payload-clause-answer
returns-in_err-payload-clause-answer g c =
    let design = g.V.PublicSuite.public_design in
    let partner = g.S.SignatureScheme.partner c.args.private.now in
    let own : Binding = binding_of partner c.args.footer c.args.assertion in
    let asked : message design (bound c.args.public.now c.new-context.result) c.as_bytes-text.result.now ≡ message design own c.args.text.now =
    rw (c.new-context.ensures, c.as_bytes-text.ensures.value) (message-key design c.args.public.now partner own.footer own.assertion c.args.text.now c.requires.partner) in
    let exit = err_from_is_err_and c.from_residual-in_err-payload.result c.from_residual-in_err-payload.ensures.1 in
    rw (exit.1, exit.2) (record {
      ok = tt;
      private_length = λ other. absurd (other (c.has_private_length.ensures.0 c.if-not-has_private_length.false));
      err = λ own_length. rw (c.as_bytes.ensures ∙ c.in_ok-message.ensures.ok ∙ asked) at c.in_err-payload.ensures.err;
    })
