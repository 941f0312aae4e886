use Rattle.std.proofs.Common.{◌≡◌, ◌∙◌, ap, refl, string_bytes}
use Rattle.std.proofs.lemmas.Result.{err_from_is_err_and}
use Rattle.rusty_paseto_parts.specs.Footer.{footer_text}
use Rattle.rusty_paseto.specs.KeyRing.{read_under}
use Rattle.rusty_paseto.proofs.KeyRingLemmas.{answered, bound_text, unfound}
use Rattle.rusty_paseto.proofs.key_ring.boxed.Ring+PasetoSymmetricKey+V2+Local.open_bound.Goals as goal

pub returns-in_err-admit : goal.returns-in_err-admit
returns-in_err-admit g c =
    let p = err_from_is_err_and c.from_residual.result c.from_residual.ensures.1 in
    record {
      long = λ is. rw (p.1, p.2, c.in_err-admit.ensures.err.0) refl;
      answer = λ is. absurd (cc (is, c.in_err-admit.ensures.err.1));
    }

pub returns-in_err-footer : goal.returns-in_err-footer
returns-in_err-footer g c =
    let p = err_from_is_err_and c.from_residual-in_err-footer.result c.from_residual-in_err-footer.ensures.1 in
    record {
      long = λ is. absurd (cc (is, c.in_ok-admit.ensures.ok));
      answer = λ is. rw (p.1, p.2) (unfound _ _ _ c.in_err-footer.field-0.0 c.in_err-footer.ensures.complete
          (λ none. cc (c.in_err-footer.ensures.count none)) c.in_err-footer.ensures.err);
    }

pub returns : goal.returns
returns g c =
    let own : footer_text c.from.result ≡ string_bytes c.in_ok-footer.field-0.footer = c.from.ensures ∙ c.as_str.ensures.value in
    let bound : footer_text c.unwrap_or-bound.result ≡ read_under c.args.expected (string_bytes c.in_ok-footer.field-0.footer) =
    ap footer_text c.unwrap_or-bound.ensures ∙ bound_text c.args.expected c.from.result ∙ ap (read_under c.args.expected) own in
    record {
      long = λ is. absurd (cc (is, c.in_ok-admit.ensures.ok));
      answer = λ is. answered _ _ _ c.in_ok-footer.field-0.footer c.in_ok-footer.field-0.id c.in_ok-footer.field-0.key.now c.in_ok-footer.ensures.ok c.in_ok-footer.ensures.complete
          c.try_decrypt-opened.result c.answer.result (rw bound at c.try_decrypt-opened.ensures) c.answer.ensures;
    }
