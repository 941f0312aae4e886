use Rattle.std.proofs.Common.{refl}
use Rattle.paseto_tasks.proofs.inspect.key.key_line.Goals as goal

pub returns-in-None-clause-none : goal.returns-in-None-clause-none
returns-in-None-clause-none c = λ none.
    (c.in_default.ensures.none refl, c.in_default-wrapped_header_of.ensures.none refl, λ pem. c.in-None.ensures pem.0 pem.1)
