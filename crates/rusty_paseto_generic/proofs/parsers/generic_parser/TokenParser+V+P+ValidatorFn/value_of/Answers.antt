use Rattle.rusty_paseto_generic.proofs.ParseLemmas.{text_answer}
use Rattle.rusty_paseto_generic.proofs.parsers.generic_parser.TokenParser+V+P+ValidatorFn.value_of.Goals as goal

pub returns : goal.returns
returns g c = text_answer _ _ c.parse_text.result (rw c.times.ensures at c.parse_text.ensures.ok) (rw c.times.ensures at c.parse_text.ensures.err)
