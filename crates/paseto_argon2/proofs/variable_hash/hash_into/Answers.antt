use Rattle.std.proofs.Common.{[]}
use Rattle.paseto_argon2.proofs.variable_hash.hash_into.Goals as goal

pub returns : goal.returns
returns c =
    c.finalize_into.ensures [] _ c.args.message.now (c.update.ensures.message [] _ [] c.new-hasher.ensures.message)
