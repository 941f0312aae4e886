use Rattle.std.proofs.Common.{◌-◌, drop, length, take}
use Rattle.std.proofs.lemmas.Result.{err_from_is_err_and}
use Rattle.rusty_paseto_generic.specs.Builders.Held.{held}
use Rattle.rusty_paseto.specs.Held.{counting}
use Rattle.paseto.specs.Claims.{all_named, named}
use Rattle.paseto.proofs.Orders.{claim_refused, counted_more}
use Rattle.paseto.proofs.Rulings.{first_and_rest}
use Rattle.paseto.proofs.commands.issue.+set_claims.Goals as goal

pub returns-in_err-built-clause-never : goal.returns-in_err-built-clause-never
returns-in_err-built-clause-never g t c =
    let p = err_from_is_err_and c.from_residual.result c.from_residual.ensures.1 in
    rw (first_and_rest c.args.claims.now c.claim-item.result c.in-len1-up.len_at_least c.claim-item.is) (rw (p.1, p.2)
    (claim_refused (named c.claim-item.result) (all_named (take (length c.args.claims.now - 1) (drop 1 c.args.claims.now))) (held c.args.builder.now.builder.claims)
    c.put_claim.result c.in_err-built.field-0.0 c.put_claim.ensures.fault c.in_err-built.ensures.refused))

pub returns-clause-keys : goal.returns-clause-keys
returns-clause-keys g t c = rw (first_and_rest c.args.claims.now c.claim-item.result c.in-len1-up.len_at_least c.claim-item.is)
    (counted_more c.set_claims.result (named c.claim-item.result) (all_named (take (length c.args.claims.now - 1) (drop 1 c.args.claims.now)))
    (counting c.args.builder.now.keys) (counting c.put_claim.new.self.keys) (counting c.set_claims.new.builder.keys) (rw c.in_ok-built.ensures.value at c.put_claim.ensures.keys) c.set_claims.ensures.keys)
