use Rattle.std.proofs.Common.{sym, arith}
use Rattle.test_toys.proofs.ToyOpening.{toy_sealing-Some, toy_sealing-None}
use Rattle.test_toys.proofs.toy_box.ToyBoxSealedBox.seal.Goals as goal

pub returns-then-message-gt-LONGEST_MESSAGE : goal.returns-then-message-gt-LONGEST_MESSAGE
returns-then-message-gt-LONGEST_MESSAGE c =
    sym (toy_sealing-None c.args.key.now c.args.nonce.now c.args.data.now c.args.message.now c.if-message-gt-LONGEST_MESSAGE.true)

pub returns : goal.returns
returns c =
    let sealed = toy_sealing-Some c.args.key.now c.args.nonce.now c.args.data.now c.args.message.now (omega arith) in
    rw (c.in_ok-extend_from_slice-2.ensures.items, c.in_ok-extend_from_slice.ensures.items, c.in_ok-boxed.ensures.items, c.in_ok-tag.ensures)
    (sym sealed)
