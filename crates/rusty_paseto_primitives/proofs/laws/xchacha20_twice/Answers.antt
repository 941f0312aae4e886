use Rattle.rusty_paseto_primitives.proofs.Xored.{xored-xored}
use Rattle.rusty_paseto_primitives.proofs.laws.xchacha20_twice.Goals as goal

pub returns : goal.returns
returns c = xored-xored _ c.args.data.now
