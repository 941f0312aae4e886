use Rattle.std.proofs.Common.{◌≡◌, ◌∙◌, ap, string_bytes}
use Rattle.std.proofs.lemmas.Result.{err_from_is_err_and}
use Rattle.rusty_paseto_parts.specs.Footer.{footer_text}
use Rattle.rusty_paseto.specs.KeyRing.{read_under}
use Rattle.rusty_paseto.proofs.KeyRingLemmas.{answered, bound_text, unfound}
use Rattle.paseto_keys.specs.AnyKey.{parts_of}
use Rattle.paseto_keys.proofs.ring.opened.Goals as goal

pub returns-in_err-footer : goal.returns-in_err-footer
returns-in_err-footer c =
    let p = err_from_is_err_and c.from_residual.result c.from_residual.ensures.1 in
    rw (p.1, p.2) (unfound _ _ _ c.in_err-footer.field-0.0 c.in_err-footer.ensures.complete
    (λ none. cc (c.in_err-footer.ensures.count none)) c.in_err-footer.ensures.err)

pub returns : goal.returns
returns c =
    let own : footer_text c.from.result ≡ string_bytes c.in_ok-footer.field-0.footer = c.from.ensures ∙ c.as_str.ensures.value in
    let bound : footer_text c.unwrap_or-bound.result ≡ read_under c.args.expected (string_bytes c.in_ok-footer.field-0.footer) =
    ap footer_text c.unwrap_or-bound.ensures ∙ bound_text c.args.expected c.from.result ∙ ap (read_under c.args.expected) own in
    let of = c.in_ok-footer.ensures.of in
    answered _ _ _ c.in_ok-footer.field-0.footer c.in_ok-footer.field-0.id (parts_of c.in_ok-footer.field-0.key.now).bytes
    c.in_ok-footer.ensures.ok c.in_ok-footer.ensures.complete c.read_token.result c.answer.result
    (rw (of.kind_is, of.version_is, bound) at c.read_token.ensures) c.answer.ensures
