use Rattle.std.proofs.lemmas.Result.{err_from_is_err_and}
use Rattle.paseto_keys.specs.AnyKey.{parts_of}
use Rattle.paseto_tasks.specs.Arguments.{texts}
use Rattle.paseto.specs.Issue.{ordered}
use Rattle.paseto.proofs.Writes.{order_makes, words_order_none}
use Rattle.paseto.proofs.commands.run.token_of.Goals as goal

pub returns-in_err-order : goal.returns-in_err-order
returns-in_err-order g c =
    let p = err_from_is_err_and c.from_residual.result c.from_residual.ensures.1 in
    rw (p.1, p.2) (record {
      printed = tt;
      refused = words_order_none (texts c.args.claims.now) c.args.options.now c.args.now (parts_of c.args.key.now) _ c.in_err-order.field-0.0
          c.in_err-order.ensures.none c.in_err-order.ensures.of_words;
    })

pub returns : goal.returns
returns g c =
    order_makes (texts c.args.claims.now) c.args.options.now c.args.now (parts_of c.args.key.now) _ _ (ordered c.in_ok-order.order) c.in_ok-order.ensures.found
    c.issue.result c.issue.ensures
