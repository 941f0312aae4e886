use Rattle.std.proofs.Common.{refl}
use Rattle.std.proofs.lemmas.Nat.{and_mask}
use Rattle.rusty_paseto_primitives.proofs.AesCounters.{counter_bytes}
use Rattle.rusty_paseto_primitives.proofs.aes.group.counter.Goals as goal

pub returns : goal.returns
returns c = counter_bytes c.args.n _ _ (and_mask c.args.n 64) refl
