use Rattle.std.proofs.Common.{◌∷◌, string_bytes, ◌∙◌}
use Rattle.std.specs.BTreeMap.{get_by_text}
use Rattle.rusty_paseto_generic.specs.Parsers.Held.{HasEach, checkers_of, rules_of}
use Rattle.rusty_paseto_generic.specs.declared.parsers.checks.Checker.TheVariants.{Boxed}
use Rattle.rusty_paseto_generic.specs.Parsers.Rules.{AreSame, edited, with_checker}
use Rattle.rusty_paseto_generic.proofs.RuleLemmas.{HasEach-more, all_with_checkers-same}
use Rattle.rusty_paseto_generic.proofs.parsers.checks.Checks.set_all_checkers.Goals as goal

pub loop-key-preserved : goal.loop-key-preserved
loop-key-preserved g c =
    let rest = c.next.new.self in
    let before = c.loop-key.self in
    let after = c.set_checker.new.self in
    let each : HasEach (get_by_text before.entries) ((c.in-Some.key, c.in-Some.checker) ∷ rest) = rw c.in-Some.ensures.steps at c.loop-key.invariant.each in
    let set : AreSame (rules_of after) (edited (string_bytes c.in-Some.key) (with_checker (Boxed c.in-Some.checker)) (rules_of before)) =
    rw (← c.as_str.ensures.value) c.set_checker.ensures.rules in
    record {
      each = HasEach-more (get_by_text after.entries) (get_by_text before.entries) rest c.set_checker.ensures.kept each.1;
      rules = λ key. all_with_checkers-same (checkers_of rest) (rules_of after) _ set key ∙ (rw c.in-Some.ensures.steps at c.loop-key.invariant.rules) key;
    }
