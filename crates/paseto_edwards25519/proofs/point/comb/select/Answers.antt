use Rattle.std.proofs.Common.{inl, inr, refl, arith}
use Rattle.std.proofs.lemmas.Bool.{cases_eq}
use Rattle.paseto_edwards25519.proofs.point.comb.select.Goals as goal

pub entries-init : goal.entries-init
entries-init c = record { kept = λ h. absurd (omega arith); none = λ h. refl }

pub entries-preserved : goal.entries-preserved
entries-preserved c =
    elim (cases_eq c.args.at c.entries.i) [
      | inl same ↦
          let none = c.entries.invariant.none (omega (arith, same)) in
          record {
            kept = λ h. rw (c.keep_entry-chosen.ensures.one (c.equals.ensures.one same) none, same) c.entry.ensures;
            none = λ h. absurd (omega (arith, same));
          }
      | inr apart ↦
          let kept = c.keep_entry-chosen.ensures.zero (c.equals.ensures.zero apart) in
          record {
            kept = λ h. rw kept (c.entries.invariant.kept (omega arith));
            none = λ h. rw kept (c.entries.invariant.none (omega arith));
          }
    ]

pub returns : goal.returns
returns c = c.entries.invariant.kept (omega arith)
