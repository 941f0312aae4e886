use Rattle.std.proofs.Common.{sym, ap, ◌∙◌}
use Rattle.std.proofs.lemmas.Bool.Decides.{Decides-eqb}
use Rattle.std.proofs.lemmas.Slice.Eq.{slice_eq-Decides}
use Rattle.paseto_der.specs.Element.{element}
use Rattle.paseto_pem.proofs.InfoLaws.{element-same}
use Rattle.paseto_pem.proofs.rsa.is_public_of.Goals as goal

pub returns-in-Some-Some : goal.returns-in-Some-Some
returns-in-Some-Some c =
    let i = c.in-Some-Some.integers.now in
    let own = c.in-Some-Some.own.now in
    let same = slice_eq-Decides Decides-eqb i own c.eq.result c.eq.ensures in
    let read = rw c.in-Some-Some.integers-is at c.in-Some-Some.ensures in
    let found = rw c.in-Some-Some.own-is at c.in-Some-Some.ensures' in (
      λ yes. read ∙ ap (element 0x30) (same.0 yes) ∙ found,
      λ e. same.1 (element-same 0x30 i own (sym read ∙ e ∙ sym found)),
    )
