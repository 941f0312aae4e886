use Rattle.std.proofs.Common.{rules}
use Rattle.rusty_paseto_generic.proofs.parsers.check_entry.mismatch.Goals as goal

pub returns-in_ok-from_str-in-Some-Some-2 : goal.returns-in_ok-from_str-in-Some-Some-2
returns-in_ok-from_str-in-Some-Some-2 c = search rules
