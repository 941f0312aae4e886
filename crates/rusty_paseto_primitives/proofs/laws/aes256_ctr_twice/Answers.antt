use Rattle.rusty_paseto_primitives.proofs.Xored.{xored-xored}
use Rattle.rusty_paseto_primitives.proofs.laws.aes256_ctr_twice.Goals as goal

pub returns : goal.returns
returns c = xored-xored _ c.args.data.now
