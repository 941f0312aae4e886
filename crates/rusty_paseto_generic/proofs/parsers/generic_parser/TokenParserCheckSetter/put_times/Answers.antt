use Rattle.std.proofs.Common.{rules}
use Rattle.rusty_paseto_generic.proofs.parsers.generic_parser.TokenParserCheckSetter.put_times.Goals as goal

pub returns-clause-moment : goal.returns-clause-moment
returns-clause-moment g c = search rules
