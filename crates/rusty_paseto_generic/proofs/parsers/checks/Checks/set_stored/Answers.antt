use Rattle.std.proofs.Common.{Some, refl, sym}
use Rattle.rusty_paseto_generic.specs.Parsers.Held.{stored_json}
use Rattle.rusty_paseto_generic.specs.Parsers.Rules.{with_stored}
use Rattle.rusty_paseto_generic.specs.declared.parsers.checks.Check.{Check}
use Rattle.rusty_paseto_generic.proofs.RuleLemmas.{Puts, changed, kept, written}
use Rattle.rusty_paseto_generic.proofs.parsers.checks.Checks.set_stored.Goals as goal

pub returns-in-Some : goal.returns-in-Some
returns-in-Some g c =
    let old = c.args.self.now.entries in
    let check : Check g.row.B.Denot = record { required = c.in-Some.check.now.required; stored = Some c.args.stored; checker = c.in-Some.check.now.checker } in
    let new = c.get_mut.follows.lender check in
    let puts : Puts c.args.key.now old new check =
    written c.args.key.now old new c.in-Some.check.now check (c.get_mut.follows.holds check) c.in-Some.ensures.value in
    record {
      rules = changed c.args.key.now old new (Some c.in-Some.check.now) check (with_stored (stored_json c.args.key.now c.args.stored)) puts (sym c.in-Some.ensures.value) refl;
      kept = kept c.args.key.now old new check puts;
    }
