use Rattle.std.proofs.Common.{◌∙◌}
use Rattle.rusty_paseto_primitives.proofs.Pbkdf2Iterations.{key_of_block}
use Rattle.rusty_paseto_primitives.proofs.pbkdf2.pbkdf2_sha384.Goals as goal

pub returns : goal.returns
returns c =
    c.block.ensures c.args.password.now c.new.ensures ∙ key_of_block c.args.password.now c.args.salt.now c.args.iterations
