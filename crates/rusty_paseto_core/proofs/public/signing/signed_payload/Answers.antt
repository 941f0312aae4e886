use Rattle.std.proofs.Common.{rules}
use Rattle.rusty_paseto_core.proofs.public.signing.signed_payload.Goals as goal

pub returns-in_err-signature-clause-err : goal.returns-in_err-signature-clause-err
returns-in_err-signature-clause-err g c = search rules
