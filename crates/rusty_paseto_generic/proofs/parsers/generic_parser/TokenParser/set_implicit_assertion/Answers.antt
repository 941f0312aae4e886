use Rattle.std.proofs.Common.{rules}
use Rattle.rusty_paseto_generic.proofs.parsers.generic_parser.TokenParser.set_implicit_assertion.Goals as goal

pub returns-clause-change : goal.returns-clause-change
returns-clause-change g c = search rules
