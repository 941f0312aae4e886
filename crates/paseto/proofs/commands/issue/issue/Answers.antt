use Rattle.std.proofs.Common.{◌∙◌, ℕ, List, [], Option, ap, inl, inr, is_some, string_bytes, unwrap_or}
use Rattle.std.proofs.lemmas.Result.{err_from_is_err_and}
use Rattle.paseto_keys.specs.AnyKey.{parts_of}
use Rattle.paseto_tasks.proofs.Blames.{fails_so, within_all}
use Rattle.paseto_tasks.proofs.Outputs.{line_makes}
use Rattle.paseto.specs.Issue.{ordered}
use Rattle.paseto.proofs.KeyReads.{expected, given}
use Rattle.paseto.proofs.Writes.{no_payload, within_issuing, write_issues, write_refuses}
use Rattle.paseto.proofs.commands.issue.issue.Goals as goal

pub returns-in_err-payload : goal.returns-in_err-payload
returns-in_err-payload g c =
    let error = c.in_err-payload.field-0.0 in
    let p = err_from_is_err_and c.from_residual.result c.from_residual.ensures.1 in
    rw (p.1, p.2) (record {
      printed = tt;
      refused = elim c.in_err-payload.ensures.refused [
        | inl none ↦ inl (no_payload (parts_of c.args.key.now) (ordered c.args.order.now) error none)
        | inr fails ↦ inr (fails_so (within_issuing (parts_of c.args.key.now) _ c.args.order.now.moment) error fails)
      ];
    })

pub returns-in_err-token : goal.returns-in_err-token
returns-in_err-token g c =
    let p = err_from_is_err_and c.from_residual-in_err-token.result c.from_residual-in_err-token.ensures.1 in
    let drawn = c.in_ok-drawn.ensures.ok in
    let footer = expected c.lent-footer.result ∙ ap (λ (t : Option (List ℕ)). unwrap_or t []) c.lent-footer.ensures in
    let some = given c.lent-footer.result ∙ ap (λ (t : Option (List ℕ)). is_some t) c.lent-footer.ensures in
    rw (p.1, p.2) (record {
      printed = tt;
      refused = elim (write_refuses (parts_of c.args.key.now) (ordered c.args.order.now) (string_bytes c.in_ok-payload.payload) c.in_ok-payload.ensures.printed
          c.in_ok-drawn.drawn.items drawn.size c.in_err-token.field-0.0 (rw (footer, some, c.deref.ensures.value, c.as_str.ensures.value) at c.in_err-token.ensures)) [
            | inl refuses ↦ inl refuses
            | inr fails ↦ inr (fails_so (within_all _) _ fails)
          ];
    })

pub returns : goal.returns
returns g c =
    let drawn = c.in_ok-drawn.ensures.ok in
    let footer = expected c.lent-footer.result ∙ ap (λ (t : Option (List ℕ)). unwrap_or t []) c.lent-footer.ensures in
    let some = given c.lent-footer.result ∙ ap (λ (t : Option (List ℕ)). is_some t) c.lent-footer.ensures in
    line_makes _ _ _ (string_bytes c.in_ok-token.token) c.with_line_feed.result c.with_line_feed.ensures.line c.with_line_feed.ensures.only_memory
    (λ line is. write_issues (parts_of c.args.key.now) (ordered c.args.order.now) (string_bytes c.in_ok-payload.payload) c.in_ok-payload.ensures.printed
    c.in_ok-drawn.drawn.items drawn.size c.in_ok-token.token line _ (rw (footer, some, c.deref.ensures.value, c.as_str.ensures.value) at c.in_ok-token.ensures) drawn is)
