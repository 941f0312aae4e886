use Rattle.paseto_keys.specs.AnyKey.{parts_of}
use Rattle.paseto.proofs.NamedKeys.{id_told, none_told}
use Rattle.paseto.proofs.named.has_id.Goals as goal

pub returns-in-Ok : goal.returns-in-Ok
returns-in-Ok c = id_told (parts_of c.args.key.now) c.in-Ok.own _ c.args.id.now c.eq.result c.in-Ok.ensures c.as_str.ensures.value c.eq.ensures

pub returns-in-Err : goal.returns-in-Err
returns-in-Err c = none_told (parts_of c.args.key.now) c.in-Err.error c.args.id.now c.without_id.result c.in-Err.ensures c.without_id.ensures
