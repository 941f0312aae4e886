use Rattle.paseto_argon2.proofs.Registers.{column_in_registers}
use Rattle.paseto_argon2.proofs.block.column_of.Goals as goal

pub returns : goal.returns
returns c a e = column_in_registers c.args.x.now a c.args.j e c.requires
