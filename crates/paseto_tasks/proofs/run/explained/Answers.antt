use Rattle.std.proofs.Common.{inl}
use Rattle.std.proofs.lemmas.Result.{err_from_is_err_and}
use Rattle.paseto_keys.specs.AnyKey.{parts_of}
use Rattle.paseto_tasks.specs.Explain.{RefusesExplaining}
use Rattle.paseto_tasks.specs.Input.{IsNoText}
use Rattle.paseto_tasks.proofs.Inputs.{refused_more}
use Rattle.paseto_tasks.proofs.run.explained.Goals as goal

pub returns-in_err-token-clause-refused : goal.returns-in_err-token-clause-refused
returns-in_err-token-clause-refused g c =
    let error = c.in_err-token.field-0.0 in
    let p = err_from_is_err_and c.from_residual.result c.from_residual.ensures.1 in
    rw (p.1, p.2) (refused_more (g.R.Read.remaining c.args.input.now) (λ bytes. IsNoText bytes error)
    (λ bytes. RefusesExplaining (parts_of c.args.key.now) c.args.options.now bytes error) (λ bytes none. inl none) c.in_err-token.ensures.refused)
