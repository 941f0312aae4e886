use Rattle.std.proofs.Common.{inl, inr, rules}
use Rattle.std.proofs.lemmas.Result.{err_from_is_err_and}
use Rattle.paseto_wrapping.specs.Family.{family_of}
use Rattle.paseto_wrapping.specs.Password.{AreDrawn}
use Rattle.paseto_key_files.proofs.FormLaws.{line_wrappable}
use Rattle.paseto_key_files.proofs.WritingLaws.{protected_fault}
use Rattle.paseto_key_files.proofs.password.protect_private_line.Goals as goal

pub returns-in_err-protect_secret-clause-err : goal.returns-in_err-protect_secret-clause-err
returns-in_err-protect_secret-clause-err g c =
    let p = err_from_is_err_and c.from_residual-in_err-protect_secret.result c.from_residual-in_err-protect_secret.ensures.1 in
    let key = c.in_ok-key.key in
    let salt = c.split_at.result.0.now in
    let nonce = c.split_at.result.1.now in
    let is = line_wrappable g.V.KeyVersion.paserk key c.args.line.now c.in_ok-key.ensures.found in
    let drawn : AreDrawn (family_of g.V.KeyVersion.paserk) salt nonce = search rules in
    let fault = protected_fault g.V.KeyVersion.paserk key salt nonce c.args.password.now c.args.cost c.in_err-protect_secret.field-0.0 is drawn
    (rw c.lend.ensures at c.in_err-protect_secret.ensures.err) in
    rw (p.1, p.2) (elim fault [ inl memory ↦ inl (inl memory) | inr cost ↦ inr (inr cost) ])
