use Rattle.std.proofs.Common.{refl}
use Rattle.paseto_keys.proofs.LineLaws.{no_line, paserk_line}
use Rattle.paseto_keys.proofs.any_key.AnyKey.from_line.Goals as goal

pub returns-in-Some : goal.returns-in-Some
returns-in-Some c =
    paserk_line c.args.line.now c.in-Some.kind c.in-Some.version _ c.in-Some.ensures.found
    c.paserk_key.result c.paserk_key.ensures

pub returns-in-None : goal.returns-in-None
returns-in-None c = no_line c.args.line.now (c.in-None.ensures.none refl)
