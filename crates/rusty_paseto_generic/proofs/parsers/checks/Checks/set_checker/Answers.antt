use Rattle.std.proofs.Common.{Some, refl, sym}
use Rattle.rusty_paseto_generic.specs.Parsers.Rules.{with_checker}
use Rattle.rusty_paseto_generic.specs.declared.parsers.checks.Check.{Check}
use Rattle.rusty_paseto_generic.proofs.RuleLemmas.{Puts, changed, kept, written}
use Rattle.rusty_paseto_generic.proofs.parsers.checks.Checks.set_checker.Goals as goal

pub returns-in-Some : goal.returns-in-Some
returns-in-Some g c =
    let old = c.args.self.now.entries in
    let check : Check g.row.B.Denot = record { required = c.in-Some.check.now.required; stored = c.in-Some.check.now.stored; checker = Some c.args.checker } in
    let new = c.get_mut.follows.lender check in
    let puts : Puts c.args.key.now old new check =
    written c.args.key.now old new c.in-Some.check.now check (c.get_mut.follows.holds check) c.in-Some.ensures.value in
    record {
      rules = changed c.args.key.now old new (Some c.in-Some.check.now) check (with_checker c.args.checker) puts (sym c.in-Some.ensures.value) refl;
      kept = kept c.args.key.now old new check puts;
    }
