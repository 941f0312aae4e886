use Rattle.paseto.specs.Check.{demanded}
use Rattle.paseto.proofs.Checks.{kinds_give}
use Rattle.paseto.proofs.commands.check.claims_by.Goals as goal

pub returns-in-One : goal.returns-in-One
returns-in-One c =
    rw c.in-One.is (kinds_give _ (demanded c.args.demands.now).footer (demanded c.args.demands.now).assertion c.args.token.now
    c.claims_by_key.result c.with_kinds.result c.claims_by_key.ensures c.with_kinds.ensures.value c.with_kinds.ensures.refused)
