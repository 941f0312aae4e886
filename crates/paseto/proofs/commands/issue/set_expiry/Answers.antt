use Rattle.std.proofs.Common.{Some, codes, inr, string_bytes}
use Rattle.rusty_paseto_generic.specs.Builders.Held.{held}
use Rattle.paseto.specs.Times.{IsNeverSet}
use Rattle.paseto.proofs.Orders.{no_date, exp_refused, time_set}
use Rattle.paseto.proofs.commands.issue.set_expiry.Goals as goal

pub returns-in-Ok-clause-set : goal.returns-in-Ok-clause-set
returns-in-Ok-clause-set g c = rw c.in-Some.is
    (time_set c.built.result c.put_claim.result (codes "exp") c.in-Some.moment (string_bytes c.in_ok-moment_text.field-0) c.in-Ok.claim
    (held c.args.builder.now.builder.claims) (held c.put_claim.new.self.builder.claims)
    c.built.ensures.value c.put_claim.ensures.ok c.in-Ok.ensures.kept c.in_ok-moment_text.ensures)

pub returns-in-Ok-clause-never : goal.returns-in-Ok-clause-never
returns-in-Ok-clause-never g c = rw c.in-Some.is
    (exp_refused c.built.result c.put_claim.result c.in-Ok.claim (held c.args.builder.now.builder.claims) (IsNeverSet (codes "exp") (Some c.in-Some.moment))
    c.put_claim.ensures.fault c.built.ensures.refused)

pub returns-in-Err-clause-never : goal.returns-in-Err-clause-never
returns-in-Err-clause-never g c = rw c.in-Some.is
    (inr (no_date (codes "exp") c.in-Some.moment (string_bytes c.in_ok-moment_text.field-0) c.in_ok-moment_text.ensures c.in-Err.ensures.refused.1))
