use Rattle.std.proofs.Common.{◌∙◌}
use Rattle.paseto_calls.proofs.ParseLemmas.{with_times-same}
use Rattle.paseto_calls.proofs.admit.begin.Goals as goal

pub returns-clause-rules : goal.returns-clause-rules
returns-clause-rules g c = λ key. c.in_ok-put_times.ensures.ok key ∙ with_times-same _ _ c.requires key
