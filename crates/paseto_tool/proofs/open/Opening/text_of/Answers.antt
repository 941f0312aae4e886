use Rattle.std.proofs.Common.{ℕ, List, ◌∙◌, subst, IsUtf8}
use Rattle.paseto_tool.specs.Arguments.{given_assertion, given_footer}
use Rattle.paseto_tool.specs.Open.{no_text}
use Rattle.std.proofs.lemmas.Result.{err_from_is_err_and}
use Rattle.paseto_tool.proofs.Reasons.{IsOpeningReason-fault}
use Rattle.paseto_tool.proofs.open.Opening.text_of.Goals as goal

pub returns-in_err-text : goal.returns-in_err-text
returns-in_err-text g c = record {
  printed = λ says.
      let given = c.args.self.now.attachments in
      let fault = rw c.from-key.ensures at c.in_err-text.ensures.fault in
      let token = c.in_ok-token.ensures.cases.0 ∙ c.without_line_feed.ensures in
      let p = err_from_is_err_and c.from_residual-in_err-text.result c.from_residual-in_err-text.ensures.1 in
      rw (p.1, p.2) (IsOpeningReason-fault g.V.LocalSuite.design c.args.self.now.key.now c.args.key says
      (given_footer given) (given_assertion given) c.args.input.now c.in_ok-token.token.now c.in_err-text.field-0.0 token fault);
}

pub returns-in_err-token : goal.returns-in_err-token
returns-in_err-token g c = record {
  printed = λ says.
      let p = err_from_is_err_and c.from_residual.result c.from_residual.ensures.1 in
      rw (p.1, p.2)
      (no_text _ says.digits (subst (λ (t : List ℕ). ¬ IsUtf8 t) c.without_line_feed.ensures c.in_err-token.ensures.cases.0));
}
