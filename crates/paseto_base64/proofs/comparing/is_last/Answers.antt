use Rattle.std.proofs.Common.{arith, length, refl}
use Rattle.std.proofs.lemmas.Bool.{eqb-true}
use Rattle.paseto_base64.proofs.Ends.{no_end, none_left}
use Rattle.paseto_base64.proofs.comparing.is_last.Goals as goal

pub returns-in-empty : goal.returns-in-empty
returns-in-empty c =
    rw (none_left c.args.rest.now c.in-empty.len_below, no_end c.args.alphabet, c.is_empty.ensures) (
      λ yes. none_left c.args.text.now (omega (arith, eqb-true (length c.args.text.now) 0 yes)),
      λ is. rw is refl,
    )
