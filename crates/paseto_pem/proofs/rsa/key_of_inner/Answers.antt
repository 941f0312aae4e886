use Rattle.std.proofs.Common.{arith}
use Rattle.paseto_pem.proofs.RsaLaws.{inner-few}
use Rattle.paseto_pem.proofs.rsa.key_of_inner.Goals as goal

pub returns-then-inner-gt-MOST_INNER : goal.returns-then-inner-gt-MOST_INNER
returns-then-inner-gt-MOST_INNER c = λ is. omega (arith, inner-few c.args.inner.now is, c.if-inner-gt-MOST_INNER.true)
