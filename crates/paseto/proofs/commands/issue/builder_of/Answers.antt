use Rattle.std.proofs.lemmas.Result.{err_from_is_err_and}
use Rattle.rusty_paseto.specs.Held.{counting}
use Rattle.paseto_tasks.proofs.Statuses.{no_usage_or}
use Rattle.paseto.specs.Issue.{ordered}
use Rattle.paseto.proofs.Orders.{begin_never, claims_never, counted_all, expiry_never}
use Rattle.paseto_tasks.proofs.Blames.{blames_so, within_all}
use Rattle.paseto.proofs.commands.issue.builder_of.Goals as goal

pub returns-clause-keys : goal.returns-clause-keys
returns-clause-keys c =
    (counted_all (ordered c.args.order.now) (counting c.in_ok-builder.builder.keys) (counting c.set_claims.new.builder.keys)
    (counting c.set_expiry.new.builder.keys) (counting c.set_begin.new.builder.keys)
    (rw c.in_ok-builder.ensures.value at c.default.ensures.keys) (rw c.deref.ensures.value at c.in_ok-set_claims.ensures.keys) c.in_ok-set_expiry.ensures.keys c.in_ok-set_begin.ensures.keys)

pub returns-in_err-set_claims-clause-usage : goal.returns-in_err-set_claims-clause-usage
returns-in_err-set_claims-clause-usage c =
    let p = err_from_is_err_and c.from_residual-in_err-set_claims.result c.from_residual-in_err-set_claims.ensures.1 in
    rw (p.1, p.2) (no_usage_or c.in_err-set_claims.field-0.0 (claims_never (ordered c.args.order.now) c.in_err-set_claims.field-0.0 (rw c.deref.ensures.value at c.in_err-set_claims.ensures.never)))

pub returns-in_err-set_expiry-clause-never : goal.returns-in_err-set_expiry-clause-never
returns-in_err-set_expiry-clause-never c =
    let p = err_from_is_err_and c.from_residual-in_err-set_expiry.result c.from_residual-in_err-set_expiry.ensures.1 in
    rw (p.1, p.2) (expiry_never (ordered c.args.order.now) c.in_err-set_expiry.field-0.0 c.in_err-set_expiry.ensures.never)

pub returns-in_err-set_expiry-clause-usage : goal.returns-in_err-set_expiry-clause-usage
returns-in_err-set_expiry-clause-usage c =
    let p = err_from_is_err_and c.from_residual-in_err-set_expiry.result c.from_residual-in_err-set_expiry.ensures.1 in
    rw (p.1, p.2) (no_usage_or c.in_err-set_expiry.field-0.0 (expiry_never (ordered c.args.order.now) c.in_err-set_expiry.field-0.0 c.in_err-set_expiry.ensures.never))

pub returns-in_err-set_begin-clause-never : goal.returns-in_err-set_begin-clause-never
returns-in_err-set_begin-clause-never c =
    let p = err_from_is_err_and c.from_residual-in_err-set_begin.result c.from_residual-in_err-set_begin.ensures.1 in
    rw (p.1, p.2) (begin_never (ordered c.args.order.now) c.in_err-set_begin.field-0.0 c.in_err-set_begin.ensures.never)

pub returns-in_err-set_begin-clause-usage : goal.returns-in_err-set_begin-clause-usage
returns-in_err-set_begin-clause-usage c =
    let p = err_from_is_err_and c.from_residual-in_err-set_begin.result c.from_residual-in_err-set_begin.ensures.1 in
    rw (p.1, p.2) (no_usage_or c.in_err-set_begin.field-0.0 (begin_never (ordered c.args.order.now) c.in_err-set_begin.field-0.0 c.in_err-set_begin.ensures.never))

pub returns-in_err-set_claims-clause-blames : goal.returns-in_err-set_claims-clause-blames
returns-in_err-set_claims-clause-blames c =
    let p = err_from_is_err_and c.from_residual-in_err-set_claims.result c.from_residual-in_err-set_claims.ensures.1 in
    rw (p.1, p.2) (blames_so (within_all _) c.in_err-set_claims.field-0.0 c.in_err-set_claims.ensures.blames)

pub returns-in_err-set_expiry-clause-blames : goal.returns-in_err-set_expiry-clause-blames
returns-in_err-set_expiry-clause-blames c =
    let p = err_from_is_err_and c.from_residual-in_err-set_expiry.result c.from_residual-in_err-set_expiry.ensures.1 in
    rw (p.1, p.2) (blames_so (within_all _) c.in_err-set_expiry.field-0.0 c.in_err-set_expiry.ensures.blames)

pub returns-in_err-set_begin-clause-blames : goal.returns-in_err-set_begin-clause-blames
returns-in_err-set_begin-clause-blames c =
    let p = err_from_is_err_and c.from_residual-in_err-set_begin.result c.from_residual-in_err-set_begin.ensures.1 in
    rw (p.1, p.2) (blames_so (within_all _) c.in_err-set_begin.field-0.0 c.in_err-set_begin.ensures.blames)

pub returns-in_err-builder-clause-blames : goal.returns-in_err-builder-clause-blames
returns-in_err-builder-clause-blames c =
    let p = err_from_is_err_and c.from_residual.result c.from_residual.ensures.1 in
    rw (p.1, p.2) (blames_so (within_all _) c.in_err-builder.field-0.0 c.in_err-builder.ensures.blames)
