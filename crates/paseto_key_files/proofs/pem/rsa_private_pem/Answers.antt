use Rattle.std.proofs.lemmas.Result.{err_from_is_err_and}
use Rattle.paseto_key_files.specs.Error.{pem_error_of}
use Rattle.paseto_key_files.specs.Line.{IsSomeForm}
use Rattle.rusty_paseto_paserk.specs.Rsa.{IsSecretForm}
use Rattle.rusty_paseto_paserk.specs.declared.header.PaserkType.TheVariants.{Secret}
use Rattle.rusty_paseto_paserk.specs.declared.header.PaserkVersion.TheVariants.{V1}
use Rattle.paseto_key_files.proofs.FormLaws.{line_key}
use Rattle.paseto_key_files.proofs.PemLaws.{memory_fault, rsa_private_memory}
use Rattle.paseto_key_files.proofs.pem.rsa_private_pem.Goals as goal

pub returns-in_err-private_key_to_pem-clause-err : goal.returns-in_err-private_key_to_pem-clause-err
returns-in_err-private_key_to_pem-clause-err c =
    let p = err_from_is_err_and c.from_residual-in_err-private_key_to_pem.result c.from_residual-in_err-private_key_to_pem.ensures.1 in
    let key = c.in_ok-key.key in
    let error = c.in_err-private_key_to_pem.field-0.0 in
    let memory = rsa_private_memory key (line_key V1 key c.args.line.now c.in_ok-key.ensures.found) error (rw c.lend.ensures at c.in_err-private_key_to_pem.ensures.refused) in
    rw (p.1, p.2) (memory_fault V1 Secret (IsSomeForm IsSecretForm) c.args.line.now (pem_error_of error) memory)
