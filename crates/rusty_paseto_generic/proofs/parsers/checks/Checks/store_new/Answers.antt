use Rattle.std.proofs.Common.{None, Some, false, refl, string_bytes}
use Rattle.rusty_paseto_generic.specs.Parsers.Held.{stored_json}
use Rattle.rusty_paseto_generic.specs.Parsers.Rules.{with_stored}
use Rattle.rusty_paseto_generic.proofs.RuleLemmas.{Puts, changed}
use Rattle.rusty_paseto_generic.proofs.parsers.checks.Checks.store_new.Goals as goal

pub returns-clause-ok : goal.returns-clause-ok
returns-clause-ok g c =
    let key = string_bytes c.args.key in
    let puts : Puts key c.args.self.now.entries c.insert.new.self (record { required = false; stored = Some c.args.stored; checker = None }) = c.in_ok-insert.ensures.updates in
    changed key c.args.self.now.entries c.insert.new.self None _ (with_stored (stored_json key c.args.stored)) puts c.requires refl
