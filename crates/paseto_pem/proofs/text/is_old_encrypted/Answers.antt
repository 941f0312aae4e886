use Rattle.std.proofs.Common.{[], Bor, List, ℕ, get_or}
use Rattle.std.proofs.lemmas.Bool.Decides.{Decides-eqb}
use Rattle.std.proofs.lemmas.Slice.Eq.{slice_eq-Decides}
use Rattle.std.specs.Prelude.{codes}
use Rattle.paseto_pem.proofs.BlockLaws.{old-first, old-is}
use Rattle.paseto_pem.proofs.text.is_old_encrypted.Goals as goal

pub returns-in-len1-up : goal.returns-in-len1-up
returns-in-len1-up c =
    let d : Bor (List ℕ) = record { ref_ptr = (0, 0); now = [] } in
    let same = slice_eq-Decides Decides-eqb (get_or c.args.behind.now 0 d).now (codes "Proc-Type: 4,ENCRYPTED") c.eq.result c.eq.ensures in (
      λ yes. old-first c.args.behind.now d c.in-len1-up.len_at_least (same.0 yes),
      λ old. same.1 (old-is c.args.behind.now d c.in-len1-up.len_at_least old),
    )
