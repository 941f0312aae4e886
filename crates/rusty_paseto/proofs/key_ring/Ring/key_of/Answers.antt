use Rattle.std.proofs.Common.{◌≡◌, None, inr, string_bytes, sym}
use Rattle.rusty_paseto.specs.Held.{keys_of}
use Rattle.rusty_paseto.proofs.key_ring.Ring.key_of.Goals as goal

pub returns-clause-err : goal.returns-clause-err
returns-clause-err g c =
    let asked : c.as_str.result.now ≡ string_bytes c.in_ok-id.id = c.as_str.ensures.value in
    let none : keys_of c.args.self.now (string_bytes c.in_ok-id.id) ≡ None = rw (← asked) (sym c.in-None.ensures.value) in
    λ is. inr (c.in_ok-id.ensures.ok, none)
