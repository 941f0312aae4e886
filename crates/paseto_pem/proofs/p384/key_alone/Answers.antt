use Rattle.std.proofs.Common.{◌++◌}
use Rattle.paseto_pem.specs.P384.{parameters}
use Rattle.paseto_pem.proofs.P384Laws.{ec-unique}
use Rattle.paseto_pem.proofs.p384.key_alone.Goals as goal

pub returns-in_default-read_element-clause-refused : goal.returns-in_default-read_element-clause-refused
returns-in_default-read_element-clause-refused c number curve rest e =
    let key = c.in-Some.key in
    c.in_default-read_element.ensures curve rest
    (ec-unique key.number.now number key.rest.now (parameters curve ++ rest) c.args.contents.now c.in-Some.ensures e).1
