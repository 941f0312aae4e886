use Rattle.std.proofs.Common.{sym, ap, ◌∙◌, length}
use Rattle.paseto_pem.proofs.InfoLaws.{element-same}
use Rattle.paseto_pem.proofs.ed25519.seed_in.Goals as goal

pub returns-then-seed-ne-HALF : goal.returns-then-seed-ne-HALF
returns-then-seed-ne-HALF c seed size e =
    let same = element-same 0x04 c.in_ok-seed.seed.now seed (sym c.in_ok-seed.ensures ∙ e) in
    c.if-seed-ne-HALF.true (ap length same ∙ size)
