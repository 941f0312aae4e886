use Rattle.std.proofs.Common.{refl}
use Rattle.std.proofs.lemmas.Result.{IfErr-weaker, IfOk-weaker, err_from_is_err_and}
use Rattle.paseto.specs.Check.{demanded}
use Rattle.paseto.specs.Each.StopsFor.{stops, unready}
use Rattle.paseto.proofs.commands.run.each.Goals as goal

pub returns-in_err-ready-clause-stops : goal.returns-in_err-ready-clause-stops
returns-in_err-ready-clause-stops g c =
    let p = err_from_is_err_and c.from_residual-in_err-ready.result c.from_residual-in_err-ready.ensures.1 in
    rw (p.1, p.2) (unready (demanded c.in_ok-demands.demands) c.in_ok-demands.ensures.found c.in_err-ready.ensures.unready refl)

pub returns-clause-all : goal.returns-clause-all
returns-clause-all g c =
    IfOk-weaker c.check.result _ _ (λ all checks. record {
      demands = demanded c.in_ok-demands.demands;
      are_demands = c.in_ok-demands.ensures.found;
      ready = c.in_ok-ready.ensures.ready;
      checks = checks;
    }) c.check.ensures.all

pub returns-clause-stops : goal.returns-clause-stops
returns-clause-stops g c =
    IfErr-weaker c.check.result _ _ (λ error stopped. stops (demanded c.in_ok-demands.demands) c.in_ok-demands.ensures.found c.in_ok-ready.ensures.ready stopped)
    c.check.ensures.stops
