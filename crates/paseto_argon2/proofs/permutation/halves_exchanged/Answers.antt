use Rattle.std.proofs.Common.{arith}
use Rattle.rusty_paseto_primitives.proofs.Blake2Lanes.{halves_of_words}
use Rattle.paseto_argon2.proofs.permutation.halves_exchanged.Goals as goal

pub returns : goal.returns
returns c f e =
    let fits = rw e at c.fits-x in
    rw e (halves_of_words (f 0) (f 1) (omega (arith, fits.1.0)) (omega (arith, fits.1.1.0)))
