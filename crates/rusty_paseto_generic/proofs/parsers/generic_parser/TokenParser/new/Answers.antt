use Rattle.std.proofs.Common.{rules}
use Rattle.rusty_paseto_generic.proofs.parsers.generic_parser.TokenParser.new.Goals as goal

pub returns-clause-footer : goal.returns-clause-footer
returns-clause-footer g c = search rules
