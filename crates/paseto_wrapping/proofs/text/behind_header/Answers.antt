use Rattle.std.proofs.Common.{refl}
use Rattle.paseto_wrapping.proofs.text.behind_header.Goals as goal

pub returns-in_default-clause-none : goal.returns-in_default-clause-none
returns-in_default-clause-none c _ = c.in_default.ensures.none refl c.args.version c.args.kind

pub returns-in_default-clause-refused : goal.returns-in_default-clause-refused
returns-in_default-clause-refused c = c.in_default.ensures.none refl
