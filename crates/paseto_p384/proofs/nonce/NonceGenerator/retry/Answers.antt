use Rattle.std.proofs.Common.{[]}
use Rattle.paseto_p384.specs.Nonce.{retried}
use Rattle.paseto_p384.proofs.nonce.NonceGenerator.retry.Goals as goal

pub returns : goal.returns
unfolding retried
returns c =
    let key = c.args.self.key in
    let one = c.update.ensures key [] c.new-hasher.ensures in
    let two = c.update-2.ensures key _ one in
    let new = c.finalize-key.ensures key _ two in
    cc
