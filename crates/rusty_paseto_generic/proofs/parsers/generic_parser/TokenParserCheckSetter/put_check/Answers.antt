use Rattle.std.proofs.Common.{rules}
use Rattle.rusty_paseto_generic.proofs.parsers.generic_parser.TokenParserCheckSetter.put_check.Goals as goal

pub returns-clause-ok : goal.returns-clause-ok
returns-clause-ok g c = search rules
