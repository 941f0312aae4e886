use Rattle.std.proofs.Common.{inl, inr}
use Rattle.std.proofs.lemmas.Result.{err_from_is_err_and}
use Rattle.paseto.proofs.new_key.new_texts.Goals as goal

pub returns-in_err-key-clause-refused : goal.returns-in_err-key-clause-refused
returns-in_err-key-clause-refused g c =
    let p = err_from_is_err_and c.from_residual.result c.from_residual.ensures.1 in
    rw (p.1, p.2.1) (inl (_, c.in_err-key.ensures))

pub returns-in_err-public-clause-refused : goal.returns-in_err-public-clause-refused
returns-in_err-public-clause-refused g c =
    let p = err_from_is_err_and c.from_residual-in_err-public.result c.from_residual-in_err-public.ensures.1 in
    rw (p.1, p.2) (inr (c.in_ok-key.key, inr c.in_err-public.ensures.refused))

pub returns-clause-made : goal.returns-clause-made
returns-clause-made g c = (c.in_ok-key.key, _, c.in_ok-key.ensures, c.in_ok-secret.ensures.made, c.in_ok-public.ensures.made)
