use Rattle.std.proofs.Common.{arith}
use Rattle.std.proofs.lemmas.List.{length-drop}
use Rattle.paseto_example.proofs.keyed_hash_scheme.public_key_of.Goals as goal

-- src/keyed_hash_scheme.rt:71:1
pub returns-clause-size : goal.returns-clause-size
returns-clause-size c = omega (arith, length-drop 32 c.args.private.now, c.requires)
