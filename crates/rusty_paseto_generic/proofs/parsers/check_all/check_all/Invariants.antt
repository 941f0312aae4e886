use Rattle.serde_json.specs.View.{view}
use Rattle.rusty_paseto_claims.specs.Error.{Fault}
use Rattle.rusty_paseto_generic.proofs.CheckLemmas.{EachPasses, FailsFirst}
use Rattle.rusty_paseto_generic.proofs.parsers.check_all.check_all.Given as goal

abbrev pub invariant-loop-key : goal.invariant-loop-key
invariant-loop-key g l = record {
  passes : EachPasses (λ b. (goal.Validator-dyn g (b.vtable, b.value)).verdict b.value) l.times (view l.value) l.key-iterator
      → EachPasses (λ b. (goal.Validator-dyn g (b.vtable, b.value)).verdict b.value) l.times (view l.value) l.checks.entries.entries;
  fails : (fault : Fault) → FailsFirst (λ b. (goal.Validator-dyn g (b.vtable, b.value)).verdict b.value) l.times (view l.value) l.key-iterator fault
      → FailsFirst (λ b. (goal.Validator-dyn g (b.vtable, b.value)).verdict b.value) l.times (view l.value) l.checks.entries.entries fault;
}
