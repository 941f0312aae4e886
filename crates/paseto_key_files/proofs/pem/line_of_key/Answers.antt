use Rattle.std.proofs.Common.{◌≡◌, ℕ, List, length}
use Rattle.paseto_rsa.specs.Forms.{IsPublic}
use Rattle.paseto_rsa.specs.Keys.{IsPrivate}
use Rattle.rusty_paseto_paserk.specs.Rsa.{public_text, secret_text}
use Rattle.rusty_paseto_paserk.specs.Text.{writing}
use Rattle.rusty_paseto_paserk.specs.declared.header.PaserkType.TheVariants.{Secret}
use Rattle.rusty_paseto_paserk.specs.declared.header.PaserkVersion.TheVariants.{V3, V4}
use Rattle.paseto_key_files.proofs.PemLaws.{curve_length, edwards_length, written_err, written_ok}
use Rattle.paseto_key_files.proofs.pem.line_of_key.Goals as goal

pub returns-in-RsaPrivate-clause-ok : goal.returns-in-RsaPrivate-clause-ok
returns-in-RsaPrivate-clause-ok c = rw c.in-RsaPrivate.is (written_ok IsPrivate secret_text c.in-RsaPrivate.key c.rsa_private_line.result c.rsa_private_line.ensures)

pub returns-in-RsaPrivate-clause-err : goal.returns-in-RsaPrivate-clause-err
returns-in-RsaPrivate-clause-err c =
    let held = rw c.in-RsaPrivate.is at c.requires.1 in
    written_err IsPrivate secret_text c.in-RsaPrivate.key c.rsa_private_line.result held.held.is_key c.rsa_private_line.ensures

pub returns-in-RsaPublic-clause-ok : goal.returns-in-RsaPublic-clause-ok
returns-in-RsaPublic-clause-ok c = rw c.in-RsaPublic.is (written_ok IsPublic public_text c.in-RsaPublic.key c.rsa_public_line.result c.rsa_public_line.ensures)

pub returns-in-RsaPublic-clause-err : goal.returns-in-RsaPublic-clause-err
returns-in-RsaPublic-clause-err c =
    let held = rw c.in-RsaPublic.is at c.requires.1 in
    written_err IsPublic public_text c.in-RsaPublic.key c.rsa_public_line.result held.held.is_key c.rsa_public_line.ensures

pub returns-in-P384Private-clause-ok : goal.returns-in-P384Private-clause-ok
returns-in-P384Private-clause-ok c =
    rw c.in-P384Private.is (written_ok (λ (key : List ℕ). length key ≡ 48) (writing V3 Secret) c.in-P384Private.key c.private_to_paserk.result c.private_to_paserk.ensures)

pub returns-in-P384Private-clause-err : goal.returns-in-P384Private-clause-err
returns-in-P384Private-clause-err c =
    let held = rw c.in-P384Private.is at c.requires.1 in
    written_err (λ (key : List ℕ). length key ≡ 48) (writing V3 Secret) c.in-P384Private.key c.private_to_paserk.result
    (curve_length held.label held.contents c.in-P384Private.key held.held) c.private_to_paserk.ensures

pub returns-in-Ed25519Private-clause-ok : goal.returns-in-Ed25519Private-clause-ok
returns-in-Ed25519Private-clause-ok c =
    rw c.in-Ed25519Private.is (written_ok (λ (key : List ℕ). length key ≡ 64) (writing V4 Secret) c.in-Ed25519Private.key c.private_to_paserk-in-Ed25519Private.result c.private_to_paserk-in-Ed25519Private.ensures)

pub returns-in-Ed25519Private-clause-err : goal.returns-in-Ed25519Private-clause-err
returns-in-Ed25519Private-clause-err c =
    let held = rw c.in-Ed25519Private.is at c.requires.1 in
    written_err (λ (key : List ℕ). length key ≡ 64) (writing V4 Secret) c.in-Ed25519Private.key c.private_to_paserk-in-Ed25519Private.result
    (edwards_length held.label held.contents c.in-Ed25519Private.key held.held) c.private_to_paserk-in-Ed25519Private.ensures
