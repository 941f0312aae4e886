use Rattle.std.proofs.Common.{◌≡◌, ◌∙◌, ℕ, List, if◌then◌else◌, sym, ap}
use Rattle.rusty_paseto_parts.specs.Header.{header_text}
use Rattle.rusty_paseto_core.specs.Public.{header, public}
use Rattle.rusty_paseto_core.specs.Context.{bound}
use Rattle.rusty_paseto_core.proofs.SignedMessage.{bound_message}
use Rattle.rusty_paseto_core.proofs.public.message.Goals as goal
use Rattle.rusty_paseto_core.proofs.public.message.Goals.{then-signs_key, else-signs_key, then-signs_assertion, else-signs_assertion}

pub returns-clause-ok : goal.returns-clause-ok
returns-clause-ok g c =
    let design = g.V.PublicSuite.public_design in
    let start : c.if-signs_key.start ≡ (if c.signs_key.result then 0 else 1) =
    elim c.if-signs_key.branch [
      | then-signs_key w ↦ rw w.if-signs_key.true w.start-is
      | else-signs_key w ↦ rw w.if-signs_key.false w.start-is
    ] in
    let end : c.if-signs_assertion.end ≡ (if c.signs_assertion.result then 5 else 4) =
    elim c.if-signs_assertion.branch [
      | then-signs_assertion w ↦ rw w.if-signs_assertion.true w.end-is
      | else-signs_assertion w ↦ rw w.if-signs_assertion.false w.end-is
    ] in
    let key = sym c.signs_key.ensures in
    let assertion = sym c.signs_assertion.ensures in
    let own_header : c.as_bytes.result.now ≡ header design =
    c.as_bytes.ensures ∙ ap (λ (v : List ℕ). header_text v public) (sym g.met.V.PublicSuite.public_lawful.has_version) in
    let five = rw own_header at c.five_pieces-pieces.ensures in
    let same = bound_message design (bound c.args.public.now c.args.context.now) c.args.text.now c.five_pieces-pieces.result _ _ _ _ five key assertion start end in
    simp same at c.parse.ensures.ok
