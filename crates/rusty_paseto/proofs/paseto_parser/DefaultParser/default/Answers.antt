use Rattle.std.proofs.Common.{rules}
use Rattle.rusty_paseto.proofs.paseto_parser.DefaultParser.default.Goals as goal

pub returns-clause-checks : goal.returns-clause-checks
returns-clause-checks g c = search rules
