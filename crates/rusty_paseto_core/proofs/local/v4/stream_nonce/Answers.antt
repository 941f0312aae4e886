use Rattle.std.proofs.Common.{◌∙◌, arith, drop, length-drop}
use Rattle.std.proofs.lemmas.List.{take_all}
use Rattle.rusty_paseto_core.proofs.local.v4.stream_nonce.Goals as goal

pub returns : goal.returns
returns c =
    c.copy_from_slice.ensures.after ∙ take_all 24 (drop 32 c.args.keys.now) (omega (arith, length-drop 32 c.args.keys.now))
