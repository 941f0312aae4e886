use Rattle.std.proofs.Common.{inl}
use Rattle.paseto_key_files.proofs.Errors.{paserk_memory}
use Rattle.paseto_keys.proofs.written_line.public_line.Goals as goal

pub returns-in-Err : goal.returns-in-Err
returns-in-Err g c = rw c.from.ensures (record { ok = tt; refused = inl (paserk_memory c.in-Err.error c.in-Err.ensures.err) })
