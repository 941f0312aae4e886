use Rattle.std.proofs.Common.{sym}
use Rattle.paseto_p384.specs.Point.{coordinates}
use Rattle.paseto_p384.proofs.DecodingLaws.{decoded-is_point}
use Rattle.paseto_p384.proofs.p384.P384.shared_secret.Goals as goal

pub agreed-requires : goal.agreed-requires
agreed-requires c = decoded-is_point c.args.public.now (coordinates c.in-Some-decode.q) (sym c.in-Some-decode.ensures)
