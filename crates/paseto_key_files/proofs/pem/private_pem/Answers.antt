use Rattle.std.proofs.Common.{◌≡◌, List, ℕ, length, inl, inr}
use Rattle.std.proofs.lemmas.Result.{err_from_is_err_and}
use Rattle.paseto_pem.specs.declared.label.Label.TheVariants.{PrivateKey}
use Rattle.rusty_paseto_paserk.specs.declared.header.PaserkType.TheVariants.{Secret}
use Rattle.paseto_key_files.specs.Line.{IsWritingOf}
use Rattle.paseto_key_files.proofs.Errors.{paserk_fault}
use Rattle.paseto_key_files.proofs.PemLaws.{no_pem}
use Rattle.paseto_key_files.proofs.pem.private_pem.Goals as goal

pub returns-clause-ok : goal.returns-clause-ok
returns-clause-ok g c =
    let key = c.in_ok-key.ensures in
    record {
      key = c.in_ok-key.key;
      is_line = record { bytes = key.bytes; form = key.form; written = key.written };
      written = rw c.lend.ensures at c.in_ok-private_key_to_pem.ensures.ok;
    }

pub returns-in_err-key-clause-err : goal.returns-in_err-key-clause-err
returns-in_err-key-clause-err g c =
    let p = err_from_is_err_and c.from_residual.result c.from_residual.ensures.1 in
    rw (p.1, p.2) (inl (paserk_fault g.V.KeyVersion.paserk Secret (λ (key : List ℕ). length key ≡ g.V.KeyPairVersion.secret_length) c.args.line.now c.in_err-key.field-0.0 c.in_err-key.ensures.refused))

pub returns-in_err-private_key_to_pem-clause-err : goal.returns-in_err-private_key_to_pem-clause-err
returns-in_err-private_key_to_pem-clause-err g c =
    let p = err_from_is_err_and c.from_residual-in_err-private_key_to_pem.result c.from_residual-in_err-private_key_to_pem.ensures.1 in
    let key = c.in_ok-key.ensures in
    rw (p.1, p.2) (inr (no_pem (IsWritingOf g.V.KeyVersion.paserk Secret (λ (key : List ℕ). length key ≡ g.V.KeyPairVersion.secret_length)) g.V.PemVersion.is_private_written PrivateKey c.args.line.now c.in_ok-key.key
    c.in_err-private_key_to_pem.field-0.0 (record { bytes = key.bytes; form = key.form; written = key.written }) (rw c.lend.ensures at c.in_err-private_key_to_pem.ensures.refused)))
