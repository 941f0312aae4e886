use Rattle.std.proofs.Common.{◌≡◌, List, ℕ, length}
use Rattle.rusty_paseto_paserk.specs.declared.header.PaserkType.TheVariants.{Secret}
use Rattle.paseto_key_files.proofs.LineLaws.{paserk_read, paserk_refused}
use Rattle.paseto_keys.proofs.line.private_of.Goals as goal

pub returns-in-Ok : goal.returns-in-Ok
returns-in-Ok g c =
    paserk_read g.V.KeyVersion.paserk Secret (λ (key : List ℕ). length key ≡ g.V.KeyPairVersion.secret_length) c.args.line.now c.in-Ok.key c.in-Ok.ensures

pub returns-in-Err : goal.returns-in-Err
returns-in-Err g c =
    rw c.from.ensures (paserk_refused g.V.KeyVersion.paserk Secret (λ (key : List ℕ). length key ≡ g.V.KeyPairVersion.secret_length) c.args.line.now c.in-Err.error c.in-Err.ensures)
