use Rattle.std.proofs.Common.{refl}
use Rattle.rusty_paseto_generic.specs.Parsers.Held.{rules_of}
use Rattle.paseto.proofs.Rulings.{memory_alone, required_front}
use Rattle.paseto.proofs.commands.check.+put_requirements.Goals as goal

pub returns-in-Ok-clause-set : goal.returns-in-Ok-clause-set
returns-in-Ok-clause-set g t c =
    required_front c.put_requirements.result c.args.names.now _ _ (rules_of c.args.parser.now.parser.checks) (rules_of c.put_required.new.self.parser.checks)
    (rules_of c.put_requirements.new.parser.parser.checks) c.in-len1-up.len_at_least refl (rw c.in-Ok.ensures.value at c.put_required.ensures.ok) c.put_requirements.ensures.set

pub returns-in-Err-clause-refused : goal.returns-in-Err-clause-refused
returns-in-Err-clause-refused g t c = memory_alone c.put_required.result c.in-Err.error c.put_required.ensures.fault c.in-Err.ensures.refused
