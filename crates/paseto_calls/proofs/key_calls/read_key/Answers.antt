use Rattle.std.proofs.Common.{None, refl}
use Rattle.std.proofs.lemmas.Result.{err_from_is_err_and}
use Rattle.paseto_calls.specs.KeyCalls.{OpensNothing}
use Rattle.paseto_calls.proofs.KeyExits.{opening_made}
use Rattle.paseto_calls.proofs.Taken.{text_only, text_refuses}
use Rattle.paseto_calls.proofs.OpenWhole.{plain_same}
use Rattle.paseto_calls.proofs.key_calls.read_key.Goals as goal

pub returns-in_err-text-clause-made : goal.returns-in_err-text-clause-made
returns-in_err-text-clause-made c =
    let p = err_from_is_err_and c.from_residual.result c.from_residual.ensures.1 in
    rw (p.1, p.2) (text_refuses _ _ refl (c.in_err-text.ensures.0, λ texts. c.in_err-text.ensures.1 texts.0))

pub returns-in_err-text-clause-whole : goal.returns-in_err-text-clause-whole
returns-in_err-text-clause-whole c = λ key makes.
    let p = err_from_is_err_and c.from_residual.result c.from_residual.ensures.1 in
    rw (p.1, p.2) (text_only _ _ key (c.in_err-text.ensures.0, λ texts. c.in_err-text.ensures.1 texts.0) makes)

pub returns-clause-made : goal.returns-clause-made
returns-clause-made c =
    opening_made None OpensNothing c.args.text.now refl _ (record { no_password = refl; no_key = refl }) c.opened.result (c.in_ok-text.ensures.1, tt)
    (rw c.in_ok-text.ensures.0 at c.opened.ensures.made)

pub returns-clause-whole : goal.returns-clause-whole
returns-clause-whole c = λ key makes.
    let is = makes.makes in
    c.opened.ensures.whole key (rw c.in_ok-text.ensures.0 (plain_same is.0 _ c.args.text.now key is.1 (record { no_password = refl; no_key = refl }) is.2)) is.3
