use Rattle.std.proofs.Common.{drop, ◌∙◌, sym}
use Rattle.std.proofs.lemmas.Bool.Decides.{Decides-eqb}
use Rattle.std.proofs.lemmas.Slice.Eq.{starts_is}
use Rattle.std.specs.Prelude.{codes}
use Rattle.paseto_pem.proofs.text.begins_block.Goals as goal

pub returns : goal.returns
returns c =
    let text = c.as_bytes.ensures.value in
    let is = starts_is Decides-eqb c.as_bytes.result.now (codes "-----BEGIN ") c.starts_with.result c.starts_with.ensures.value in (
      λ begins. (drop 11 c.as_bytes.result.now, sym text ∙ is.0 begins),
      λ has. is.1 has.0 (text ∙ has.1),
    )
