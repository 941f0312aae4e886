use Rattle.std.proofs.Common.{refl}
use Rattle.paseto_edwards25519.specs.Encoding.{encoded}
use Rattle.paseto_edwards25519.specs.Scalar.{bytes32, word_bytes}
use Rattle.paseto_edwards25519.proofs.laws.encoding.Goals as goal

pub returns-clause-length : goal.returns-clause-length
unfolding encoded bytes32 word_bytes
returns-clause-length c a = refl

pub returns-clause-front : goal.returns-clause-front
unfolding encoded bytes32 word_bytes
returns-clause-front c a rest = refl

pub returns-clause-back : goal.returns-clause-back
unfolding encoded bytes32 word_bytes
returns-clause-back c a rest = refl
