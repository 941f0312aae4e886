use Rattle.std.proofs.Common.{◌≡◌, List, ℕ, length}
use Rattle.rusty_paseto_paserk.specs.Text.{writing}
use Rattle.rusty_paseto_paserk.specs.declared.header.PaserkType.TheVariants.{Local, Secret}
use Rattle.paseto_key_files.specs.Line.{IsLocalKey}
use Rattle.paseto_key_files.specs.Opening.{SealFaults, Seals}
use Rattle.paseto_key_files.proofs.HeldLaws.{no_opener, opened_by_own}
use Rattle.paseto_key_files.proofs.sealing.unsealed_with.Goals as goal

pub returns-in-Ok : goal.returns-in-Ok
returns-in-Ok g c =
    let version = g.V.KeyVersion.paserk in
    opened_by_own version Secret (λ (key : List ℕ). length key ≡ g.V.KeyPairVersion.secret_length) IsLocalKey (writing version Local) (Seals version) IsLocalKey (Seals version) (SealFaults version)
    c.args.opener.now c.args.text.now c.in-Ok.own c.in-Ok.ensures c.unsealed_by.result c.unsealed_by.ensures

pub returns-in-Err : goal.returns-in-Err
returns-in-Err g c =
    let version = g.V.KeyVersion.paserk in
    rw c.of_opener.ensures (no_opener version Secret (λ (key : List ℕ). length key ≡ g.V.KeyPairVersion.secret_length) IsLocalKey (writing version Local) (Seals version) IsLocalKey (Seals version) (SealFaults version)
    c.args.opener.now c.args.text.now c.in-Err.error c.in-Err.ensures)
