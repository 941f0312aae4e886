use Rattle.std.proofs.Common.{rules}
use Rattle.rusty_paseto_generic.proofs.parsers.setter.CheckSetter.check_times.Goals as goal

pub returns-in_err-put_times : goal.returns-in_err-put_times
returns-in_err-put_times g c = search rules

pub returns : goal.returns
returns g c = search rules
