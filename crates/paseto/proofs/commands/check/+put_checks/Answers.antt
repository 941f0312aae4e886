use Rattle.std.proofs.Common.{◌-◌, drop, length, take}
use Rattle.rusty_paseto_generic.specs.Parsers.Held.{rules_of}
use Rattle.paseto.specs.Claims.{all_named, named}
use Rattle.paseto.proofs.Rulings.{first_and_rest, rules_more, whole_refused}
use Rattle.paseto.proofs.commands.check.+put_checks.Goals as goal

pub returns-in-Ok-clause-set : goal.returns-in-Ok-clause-set
returns-in-Ok-clause-set g t c = rw (first_and_rest c.args.claims.now c.claim-item.result c.in-len1-up.len_at_least c.claim-item.is)
    (rules_more (named c.claim-item.result) (all_named (take (length c.args.claims.now - 1) (drop 1 c.args.claims.now))) (rules_of c.args.parser.now.parser.checks) (rules_of c.put_check.new.self.parser.checks)
    (rules_of c.put_checks.new.parser.parser.checks) c.put_checks.result (rw c.in-Ok.ensures.value at c.put_check.ensures.ok) c.put_checks.ensures.set)

pub returns-in-Err-clause-refused : goal.returns-in-Err-clause-refused
returns-in-Err-clause-refused g t c = rw (first_and_rest c.args.claims.now c.claim-item.result c.in-len1-up.len_at_least c.claim-item.is)
    (whole_refused (named c.claim-item.result) (all_named (take (length c.args.claims.now - 1) (drop 1 c.args.claims.now))) c.put_check.result c.in-Err.error c.put_check.ensures.fault c.in-Err.ensures.refused)
