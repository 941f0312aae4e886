use Rattle.std.proofs.Common.{inl, length, ap, ◌∙◌}
use Rattle.std.proofs.lemmas.Result.{err_from_is_err_and}
use Rattle.paseto_keys.specs.AnyKey.{parts_of}
use Rattle.paseto_tasks.specs.Input.{IsNoText}
use Rattle.paseto_tasks.specs.Tokens.{RefusesText}
use Rattle.paseto_tasks.proofs.Inputs.{refused_more}
use Rattle.paseto_tasks.proofs.Uses.{fails_drawing, not_given, text_unmade}
use Rattle.paseto_tasks.proofs.tokens.write.Goals as goal

pub returns-in_err-text : goal.returns-in_err-text
returns-in_err-text g c =
    let error = c.in_err-text.field-0.0 in
    let p = err_from_is_err_and c.from_residual.result c.from_residual.ensures.1 in
    rw (p.1, p.2) (record {
      printed = tt;
      refused = fails_drawing _ error (refused_more (g.R.Read.remaining c.args.input.now) (λ bytes. IsNoText bytes error)
          (λ bytes. RefusesText (parts_of c.args.key.now) c.args.options.now _ bytes error) (λ bytes none. inl none) c.in_err-text.ensures.refused);
    })

pub returns-in_err-token : goal.returns-in_err-token
returns-in_err-token g c =
    let p = err_from_is_err_and c.from_residual-in_err-token.result c.from_residual-in_err-token.ensures.1 in
    let given = c.bound-assertion.ensures in
    let drawn = c.in_ok-drawn.ensures.ok in
    let answer = c.in_err-token.ensures.answer c.requires.writes (λ unbound. not_given _ (given.none unbound)) in
    let lifts = answer.answer (ap length c.deref.ensures.value ∙ drawn.size) in
    rw (p.1, p.2) (text_unmade _ (parts_of c.args.key.now) c.args.options.now _ (g.R.Read.remaining c.args.input.now) c.in_ok-drawn.drawn.items _ _
    c.in_err-token.field-0.0 drawn c.in_ok-text.ensures.text (rw (given.same c.requires.taken, c.deref.ensures.value, c.as_str.ensures.value) at lifts))
