use Rattle.std.proofs.Common.{Some, None, refl, sym, ◌∙◌}
use Rattle.std.proofs.lemmas.Bool.Decides.{Decides-eqb}
use Rattle.std.proofs.lemmas.Slice.Eq.{strip_prefix_is}
use Rattle.paseto_rsa.proofs.forms.public_key_from_info.Goals as goal

pub returns-in_err-key : goal.returns-in_err-key
returns-in_err-key c =
    rw c.from_residual.ensures
    (λ key is e.
    strip_prefix_is Decides-eqb c.args.info.now c.public_front.result None c.in_err-key.ensures.cases key (e ∙ c.public_front.ensures key is.size))

pub returns : goal.returns
returns c =
    let key = c.if-not-is_public_key.ensures.valid.0 refl in
    (key, strip_prefix_is Decides-eqb c.args.info.now c.public_front.result (Some c.in_ok-key.key) c.in_ok-key.ensures.cases ∙ sym (c.public_front.ensures c.in_ok-key.key.now key.size))
