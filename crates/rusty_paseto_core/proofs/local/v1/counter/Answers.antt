use Rattle.std.proofs.Common.{◌∙◌, arith, drop, length-drop}
use Rattle.std.proofs.lemmas.List.{take_all}
use Rattle.rusty_paseto_core.proofs.local.v1.counter.Goals as goal

pub returns : goal.returns
returns c =
    c.copy_from_slice.ensures.after ∙ take_all 16 (drop 16 c.args.nonce.now) (omega (arith, length-drop 16 c.args.nonce.now))
