use Rattle.std.proofs.Common.{refl}
use Rattle.std.proofs.lemmas.Bool.{false≢true}
use Rattle.paseto_p384.proofs.Validity.{private-of, private-parts}
use Rattle.paseto_p384.proofs.p384.private_number.Goals as goal

pub returns-then-private-ne-NUMBER_LENGTH : goal.returns-then-private-ne-NUMBER_LENGTH
returns-then-private-ne-NUMBER_LENGTH c h = c.if-private-ne-NUMBER_LENGTH.true (private-parts _ h).0

pub returns-then-not-is_scalar : goal.returns-then-not-is_scalar
returns-then-not-is_scalar c h =
    false≢true (c.if-not-is_scalar.ensures.1 (rw c.from_octets-d.ensures (private-parts _ h).1))

pub returns : goal.returns
returns c =
    let range = c.if-not-is_scalar.ensures.0 refl in
    (private-of _ c.if-private-ne-NUMBER_LENGTH.false (rw c.from_octets-d.ensures at range), c.from_octets-d.ensures, range.1)
