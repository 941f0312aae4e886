use Rattle.std.proofs.Common.{[]}
use Rattle.paseto_p384.specs.Nonce.{mixed}
use Rattle.paseto_p384.proofs.nonce.mixed.Goals as goal

pub returns : goal.returns
unfolding mixed
returns c =
    let key = c.args.key.now in
    let one = c.update.ensures key [] c.new-hasher.ensures in
    let two = c.update-2.ensures key _ one in
    let three = c.update-3.ensures key _ two in
    let four = c.update-4.ensures key _ three in
    c.finalize.ensures key _ four
