use Rattle.rusty_paseto_core.specs.Local.TagCollision.{cases}
use Rattle.rusty_paseto_core.proofs.TagCollisions.{none_answer, refused_answer, some_answer}
use Rattle.rusty_paseto_core.proofs.local.tag_collision.find_collision.Goals as goal

pub returns-in_err-opened : goal.returns-in_err-opened
returns-in_err-opened g c =
    refused_answer g.V.LocalSuite.design (cases c.args.openings.now) c.in_err-opened.field-0.0 c.from_residual.result
    c.from_residual.ensures.1 c.in_err-opened.ensures.err

pub returns-in_default : goal.returns-in_default
returns-in_default g c =
    none_answer g.V.LocalSuite.design (cases c.args.openings.now) c.in_ok-opened.opened.items c.in_ok-opened.ensures.ok
    (rw (← c.deref.ensures.value) (rw c.in_default.is at c.in_ok-i.ensures))

pub returns : goal.returns
returns g c =
    some_answer g.V.LocalSuite.design (cases c.args.openings.now) c.in_ok-opened.opened.items c.in_ok-opened.ensures.ok c.in_ok-found.found
    (rw c.deref-2.ensures.value at c.in_ok-found.ensures.ok)
