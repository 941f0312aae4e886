use Rattle.std.proofs.Common.{inl}
use Rattle.std.proofs.lemmas.Result.{err_from_is_err_and}
use Rattle.paseto_keys.specs.AnyKey.{parts_of}
use Rattle.paseto_tasks.specs.Input.{IsNoText}
use Rattle.paseto_tasks.specs.Tokens.{RefusesToken}
use Rattle.paseto_tasks.proofs.Inputs.{refused_more}
use Rattle.paseto_tasks.proofs.tokens.read.Goals as goal

pub returns-in_err-token : goal.returns-in_err-token
returns-in_err-token g c =
    let error = c.in_err-token.field-0.0 in
    let p = err_from_is_err_and c.from_residual.result c.from_residual.ensures.1 in
    rw (p.1, p.2) (record {
      printed = tt;
      refused = refused_more (g.R.Read.remaining c.args.input.now) (λ bytes. IsNoText bytes error)
          (λ bytes. RefusesToken (parts_of c.args.key.now) c.args.options.now bytes error) (λ bytes none. inl none) c.in_err-token.ensures.refused;
    })
