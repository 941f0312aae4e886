use Rattle.paseto_edwards25519.proofs.TableLaws.{entry-gives}
use Rattle.paseto_edwards25519.proofs.point.comb.entry_addend.Goals as goal

pub invariant_of-result-clause-on_curve : goal.invariant_of-result-clause-on_curve
invariant_of-result-clause-on_curve c =
    (entry-gives _ c.args.entry.now _ _ _ _ c.requires
    c.from_halves.ensures.value c.from_halves-2.ensures.value c.one.ensures.value c.from_halves-3.ensures.value).on_curve

pub returns-clause-is : goal.returns-clause-is
returns-clause-is c =
    (entry-gives _ c.args.entry.now _ _ _ _ c.requires
    c.from_halves.ensures.value c.from_halves-2.ensures.value c.one.ensures.value c.from_halves-3.ensures.value).is
