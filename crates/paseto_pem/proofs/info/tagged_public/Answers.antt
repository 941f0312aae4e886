use Rattle.std.proofs.Common.{◌∷◌, []}
use Rattle.std.proofs.lemmas.Bool.Decides.{Decides-eqb}
use Rattle.std.proofs.lemmas.Slice.Eq.{strip_prefix_is}
use Rattle.paseto_pem.proofs.InfoLaws.{tagged-answer}
use Rattle.paseto_pem.proofs.info.tagged_public.Goals as goal

pub returns : goal.returns
returns c =
    tagged-answer c.args.octets.now c.in_ok-bits.bits.now c.strip_prefix.result c.in_ok-bits.ensures
    (strip_prefix_is Decides-eqb c.in_ok-bits.bits.now (0 ∷ []) c.strip_prefix.result c.strip_prefix.ensures.cases)
