use Rattle.paseto_argon2.proofs.Registers.{word_in_registers}
use Rattle.paseto_argon2.proofs.block.word_of.Goals as goal

pub returns : goal.returns
returns c a e = word_in_registers c.args.block.now a c.args.k e c.requires
