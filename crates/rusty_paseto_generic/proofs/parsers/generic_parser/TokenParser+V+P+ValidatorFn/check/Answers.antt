use Rattle.rusty_paseto_generic.proofs.ParseLemmas.{check_answer}
use Rattle.rusty_paseto_generic.proofs.parsers.generic_parser.TokenParser+V+P+ValidatorFn.check.Goals as goal

pub returns : goal.returns
returns g c = check_answer _ _ c.check_value.result (rw c.times.ensures at c.check_value.ensures.ok) (rw c.times.ensures at c.check_value.ensures.err)
