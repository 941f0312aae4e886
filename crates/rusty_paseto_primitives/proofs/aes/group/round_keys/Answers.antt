use Rattle.std.proofs.Common.{rules, ℕ, ◌+◌, ◌-◌, ◌*◌, refl, arith, length-set}
use Rattle.rusty_paseto_primitives.proofs.AesGroups.{round_keys_more}
use Rattle.rusty_paseto_primitives.proofs.aes.group.round_keys.Goals as goal

pub rounds-init : goal.rounds-init
rounds-init c = record { size = refl; made = λ k h. absurd (omega arith) }

pub rounds-preserved : goal.rounds-preserved
rounds-preserved c =
    let n : ℕ = c.rounds.n in record {
      size = simp length-set c.rounds.invariant.size;
      made = round_keys_more c.args.schedule.now c.rounds.keys c.repeated.result n (16 * n + 16 - 16 * n) c.rounds.invariant.made
          (omega arith) (omega arith) (omega arith) (omega arith) (λ i. search rules) c.repeated.ensures;
    }

pub returns : goal.returns
returns c k lt = c.rounds.invariant.made k (omega arith)
