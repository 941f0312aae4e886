use Rattle.paseto_keys.specs.AnyKey.{parts_of}
use Rattle.paseto.proofs.NamedKeys.{half_named}
use Rattle.paseto.proofs.named.public_id.Goals as goal

pub returns-clause-id : goal.returns-clause-id
returns-clause-id c = half_named (parts_of c.args.key.now) c.in_ok-half.half c.id.result c.in_ok-half.ensures c.id.ensures
