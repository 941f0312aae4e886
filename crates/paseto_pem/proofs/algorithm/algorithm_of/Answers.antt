use Rattle.std.proofs.Common.{Some, ◌++◌, ap, ◌∙◌}
use Rattle.std.proofs.lemmas.Bool.Decides.{Decides-eqb}
use Rattle.std.proofs.lemmas.Slice.Eq.{strip_prefix_is}
use Rattle.paseto_pem.proofs.algorithm.algorithm_of.Goals as goal

pub returns-in-Some : goal.returns-in-Some
returns-in-Some c =
    let rest = c.in-Some.field-0.now in (
      rest,
      strip_prefix_is Decides-eqb c.args.octets.now c.ec_public_key.result (Some c.in-Some.field-0) c.in-Some.ensures.cases
          ∙ ap (λ p. p ++ rest) c.ec_public_key.ensures,
    )
