use Rattle.std.proofs.Common.{◌*◌, ◌+◌, ◌-◌, ℕ, refl, arith}
use Rattle.rusty_paseto_parts.proofs.SixteenLemmas.{more_read, base64url-nil}
use Rattle.rusty_paseto_parts.proofs.sixteen.read_sixteens.Goals as goal

pub sixteens-init : goal.sixteens-init
sixteens-init c = base64url-nil

pub sixteens-preserved : goal.sixteens-preserved
sixteens-preserved c =
    let n : ℕ = c.sixteens.n in
    more_read c.args.text.now c.sixteens.bytes c.read_sixteen.new.bytes n _ (16 * n + 16 - 16 * n) c.sixteens.invariant (omega arith)
    (omega (arith, c.sixteens.auto.bytes)) (omega arith) (c.if-not-read_sixteen.ensures refl)
