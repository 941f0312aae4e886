use Rattle.std.proofs.Common.{inl}
use Rattle.std.proofs.lemmas.Result.{err_from_is_err_and}
use Rattle.paseto_key_files.proofs.FormLaws.{line_wrappable}
use Rattle.paseto_key_files.proofs.WritingLaws.{wrapped_memory}
use Rattle.paseto_key_files.proofs.wrapping.wrap_private_line.Goals as goal

pub returns-in_err-wrap_secret-clause-err : goal.returns-in_err-wrap_secret-clause-err
returns-in_err-wrap_secret-clause-err g c =
    let p = err_from_is_err_and c.from_residual-in_err-wrap_secret.result c.from_residual-in_err-wrap_secret.ensures.1 in
    let key = c.in_ok-key.key in
    let is = line_wrappable g.V.KeyVersion.paserk key c.args.line.now c.in_ok-key.ensures.found in
    rw (p.1, p.2) (inl (inl (wrapped_memory g.V.KeyVersion.paserk key c.in_err-wrap_secret.field-0.0 is (rw c.lend.ensures at c.in_err-wrap_secret.ensures.err))))
