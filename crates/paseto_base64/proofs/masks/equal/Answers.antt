use Rattle.paseto_base64.proofs.MaskBits.{equal_bits}
use Rattle.paseto_base64.proofs.masks.equal.Goals as goal

pub returns-clause-value : goal.returns-clause-value
returns-clause-value c = equal_bits c.args.byte c.args.other c.args.number c.requires.0 c.requires.1 c.requires.2
