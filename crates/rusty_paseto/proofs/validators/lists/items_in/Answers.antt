use Rattle.std.proofs.Common.{ap, sym, ◌∙◌}
use Rattle.rusty_paseto.specs.Validators.{allowed}
use Rattle.rusty_paseto.proofs.ValidatorLemmas.{has_text_any, holding_array}
use Rattle.rusty_paseto.proofs.validators.lists.items_in.Goals as goal

pub returns-in-Some-clause-ok : goal.returns-in-Some-clause-ok
returns-in-Some-clause-ok c = λ text.
    rw c.as_slice.ensures.value (holding_array text c.args.key.now _ _ c.in-Some.ensures
    ∙ ap (λ b. allowed b c.args.key.now) (sym (has_text_any text _)))
