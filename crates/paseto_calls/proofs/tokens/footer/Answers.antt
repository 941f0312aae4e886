use Rattle.std.proofs.lemmas.Result.{err_from_is_err_and}
use Rattle.std.proofs.Common.{refl}
use Rattle.paseto_calls.proofs.Taken.{exit_made, text_refuses}
use Rattle.paseto_calls.proofs.TokenExits.{footer_refuses}
use Rattle.paseto_calls.proofs.tokens.footer.Goals as goal

pub returns-in_err-token-clause-made : goal.returns-in_err-token-clause-made
returns-in_err-token-clause-made c =
    exit_made _ _ _ (err_from_is_err_and c.from_residual.result c.from_residual.ensures.1)
    (text_refuses _ _ refl (c.in_err-token.ensures.0, λ texts. c.in_err-token.ensures.1 texts.0))

pub returns-in_err-text-clause-made : goal.returns-in_err-text-clause-made
returns-in_err-text-clause-made c =
    exit_made _ _ _ (err_from_is_err_and c.from_residual-in_err-text.result c.from_residual-in_err-text.ensures.1)
    (footer_refuses c.args.token.now (record { fine = refl; texts = (c.in_ok-token.ensures.1, tt) }) _
    (rw c.in_ok-token.ensures.0 at c.in_err-text.ensures.err))
