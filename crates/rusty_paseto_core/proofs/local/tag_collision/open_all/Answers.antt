use Rattle.rusty_paseto_core.proofs.Kept.{all_opened, first_unopened, handed_on, more_opened, none_opened}
use Rattle.rusty_paseto_core.proofs.local.tag_collision.open_all.Goals as goal

pub openings-init : goal.openings-init
openings-init g c = none_opened g.V.LocalSuite.design c.in_ok-opened.opened.items c.in_ok-opened.ensures.items

pub returns-in_err-kept-clause-err : goal.returns-in_err-kept-clause-err
returns-in_err-kept-clause-err g c =
    handed_on _ c.in_err-kept.field-0.0 c.from_residual-in_err-kept.result c.from_residual-in_err-kept.ensures.1
    (first_unopened g.V.LocalSuite.design c.args.openings.now c.openings.opening-index c.opening-item.result c.openings.opened.items c.in_err-kept.field-0.0
    c.openings-test.true c.opening-item.is c.openings.invariant c.in_err-kept.ensures.err)

pub openings-preserved : goal.openings-preserved
openings-preserved g c =
    more_opened g.V.LocalSuite.design c.args.openings.now c.openings.opening-index c.opening-item.result c.openings.opened.items c.push.new.self.items c.in_ok-kept.kept
    c.openings-test.true c.opening-item.is c.in_ok-kept.ensures.ok.0 c.in_ok-kept.ensures.ok.1 c.in-Ok.ensures.items c.openings.invariant

pub returns-clause-ok : goal.returns-clause-ok
returns-clause-ok g c =
    all_opened g.V.LocalSuite.design c.args.openings.now c.openings.opening-index c.openings.opened.items c.openings-test.false c.openings.invariant
