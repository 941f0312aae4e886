use Rattle.std.proofs.Common.{None, false, refl, string_bytes}
use Rattle.rusty_paseto_generic.proofs.RuleLemmas.{Puts, kept, reserved}
use Rattle.rusty_paseto_generic.proofs.parsers.checks.Checks.reserve_new.Goals as goal

pub returns-clause-rules : goal.returns-clause-rules
returns-clause-rules g c =
    let puts : Puts (string_bytes c.args.key) c.args.self.now.entries c.insert.new.self (record { required = false; stored = None; checker = None }) = c.in_ok-insert.ensures.updates in
    reserved (string_bytes c.args.key) c.args.self.now.entries c.insert.new.self _ puts c.requires refl

pub returns-clause-kept : goal.returns-clause-kept
returns-clause-kept g c =
    let puts : Puts (string_bytes c.args.key) c.args.self.now.entries c.insert.new.self (record { required = false; stored = None; checker = None }) = c.in_ok-insert.ensures.updates in
    kept (string_bytes c.args.key) c.args.self.now.entries c.insert.new.self _ puts
