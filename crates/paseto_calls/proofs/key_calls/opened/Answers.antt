use Rattle.std.proofs.Common.{inl, refl}
use Rattle.std.proofs.lemmas.Result.{err_from_is_err_and}
use Rattle.paseto_keys.specs.AnyKey.{parts_of}
use Rattle.paseto_calls.proofs.KeyExits.{memory_of_file, opened_held}
use Rattle.paseto_calls.proofs.OpenWhole.{fits_held}
use Rattle.paseto_calls.proofs.key_calls.opened.Goals as goal

pub returns-in_err-key-clause-made : goal.returns-in_err-key-clause-made
returns-in_err-key-clause-made c =
    let p = err_from_is_err_and c.from_residual.result c.from_residual.ensures.1 in
    rw (p.1, p.2) (inl (_, c.in_err-key.ensures.refused, refl))

pub returns-in_err-key-clause-whole : goal.returns-in_err-key-clause-whole
returns-in_err-key-clause-whole c = λ key unlocks fits.
    let p = err_from_is_err_and c.from_residual.result c.from_residual.ensures.1 in
    rw (p.1, p.2) (memory_of_file _ (c.in_err-key.ensures.read key unlocks))

pub returns-clause-made : goal.returns-clause-made
returns-clause-made c = opened_held _ _ (parts_of c.in_ok-key.key) c.in_ok-key.ensures.found c.of.result c.of.ensures

pub returns-clause-whole : goal.returns-clause-whole
returns-clause-whole c = λ key unlocks fits.
    fits_held (parts_of c.in_ok-key.key) c.of.result c.of.ensures (rw (c.in_ok-key.ensures.read key unlocks) fits)
