use Rattle.std.proofs.Common.{refl, sym, ◌∙◌}
use Rattle.std.proofs.lemmas.Bool.{false≢true}
use Rattle.std.proofs.lemmas.Bool.Decides.{Decides-eqb}
use Rattle.std.proofs.lemmas.Slice.Eq.{slice_eq-Decides}
use Rattle.std.specs.Prelude.{codes}
use Rattle.paseto_pem.specs.Text.{IsPassed}
use Rattle.paseto_pem.proofs.text.is_passed.Goals as goal

pub returns-then-begins_block : goal.returns-then-begins_block
unfolding IsPassed
returns-then-begins_block c =
    let same = slice_eq-Decides Decides-eqb c.args.line.now (codes "-----BEGIN EC PARAMETERS-----") c.eq.result c.eq.ensures in
    (λ yes begins. same.0 yes, λ passed. same.1 (passed (c.begins_block.ensures.0 c.if-begins_block.true)))

pub returns-else-begins_block : goal.returns-else-begins_block
unfolding IsPassed
returns-else-begins_block c =
    (λ yes begins. absurd (false≢true (sym c.if-begins_block.false ∙ c.begins_block.ensures.1 begins)), λ passed. refl)
