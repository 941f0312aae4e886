use Rattle.std.proofs.Common.{IsSome, string_bytes, ◌∙◌}
use Rattle.std.specs.BTreeMap.{get_by_text}
use Rattle.rusty_paseto_generic.proofs.parsers.checks.Checks.reserve_all.Goals as goal

pub loop-key-preserved : goal.loop-key-preserved
loop-key-preserved g c =
    let here : IsSome (get_by_text c.reserve.new.self.entries (string_bytes c.in-Some.key.now)) = rw (← c.as_str.ensures.value) c.in_ok-reserve.ensures.ok in
    let each = rw c.in-Some.ensures.steps at c.loop-key.invariant.each in
    record {
      rules = λ key. c.reserve.ensures.rules key ∙ c.loop-key.invariant.rules key;
      each = λ found more rest. each found (λ key some. more key (c.reserve.ensures.kept key some)) (more (string_bytes c.in-Some.key.now) here, rest);
    }

pub returns-clause-ok : goal.returns-clause-ok
returns-clause-ok g c =
    let each = rw c.in-None.ensures.steps.0 at c.loop-key.invariant.each in
    each (get_by_text c.loop-key.self.entries) (λ key some. some) tt
