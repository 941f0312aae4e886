use Rattle.std.proofs.Common.{arith}
use Rattle.paseto_pem.proofs.text.write_text.Goals as goal

pub returns-clause-bytes : goal.returns-clause-bytes
returns-clause-bytes c = λ i. let f = c.type_inv.contents i in omega arith
